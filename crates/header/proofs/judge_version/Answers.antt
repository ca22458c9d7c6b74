use Rattle.std.specs.Prelude.{ℕ, Result}
use Rattle.refusal.specs.declared.Refusal.{Refusal}
use mathlib.Core.Path.{sym, ap, ◌∙◌}
use borrow.Author.Tests.{le-ltb}
use Rattle.std.proofs.lemmas.Result.{err_from_is_err_and}
use Rattle.refusal.proofs.Tests.{tests}
use Rattle.header.specs.Judged.{version_of, standard_of, sized, versioned}
use Rattle.header.proofs.judge_version.Goals as goal

pub returns-then-s-lt26 : goal.returns-then-s-lt26
unfolding versioned version_of sized
returns-then-s-lt26 c = search tests

pub returns : goal.returns
unfolding versioned version_of sized
returns c =
    let s = c.args.s.now in
    rw (le-ltb _ _ c.if-s-lt26.false)
    (c.judge_size.ensures ∙ ap (λ (x : Result ℕ Refusal). sized x s) (sym c.in_ok-header_size.was ∙ c.header_size.ensures ∙ λ i. standard_of (record { major = c.u8_at.ensures i; minor = c.u8_at-2.ensures i })))

pub returns-in_err-header_size : goal.returns-in_err-header_size
unfolding versioned version_of sized
returns-in_err-header_size c =
    let s = c.args.s.now in
    let p = err_from_is_err_and c.from_residual.result c.from_residual.ensures.1 in
    rw (le-ltb _ _ c.if-s-lt26.false, p.1, p.2)
    (ap (λ (x : Result ℕ Refusal). sized x s) (sym c.in_err-header_size.was ∙ c.header_size.ensures ∙ λ i. standard_of (record { major = c.u8_at.ensures i; minor = c.u8_at-2.ensures i })))
