use Rattle.std.specs.Prelude.{Option, Result, Ok}
use Rattle.std.proofs.lemmas.Result.{err_from_is_err_and}
use Rattle.refusal.specs.declared.Refusal.{Refusal}
use Rattle.first_vlr.specs.declared.Span.{Span}
use mathlib.Core.Path.{◌≡◌, sym, ap, ◌∙◌}
use Prim.Native.Nat.{ℕ}
use lib.ListN.{take, drop}
use Rattle.directory.specs.Directory.{judged_of}
use Rattle.keys.specs.Keys.{target_of, opened_by, opened_in}
use Rattle.keys.proofs.open_in.Goals as goal
use Rattle.keys.proofs.open_in.Goals.{After-judge}

pub returns-in_default : goal.returns-in_default
unfolding opened_in
returns-in_default c =
    rw c.into.ensures (ap (λ (v : Option Span). opened_in v c.args.doubles c.args.text c.args.file.now) (sym c.in_default.is))

-- by what the directory is judged to be
by-judged : (j : After-judge) {x : Result ℕ Refusal} → j.judge.result ≡ x → opened_by j.in-Some.span.start j.in-Some.span.length j.args.doubles j.args.text x ≡ opened_in j.args.found j.args.doubles j.args.text j.args.file.now
unfolding opened_in
by-judged j is =
    let judged : j.judge.result ≡ judged_of (take j.in-Some.span.length (drop j.in-Some.span.start j.args.file.now)) (target_of j.args.doubles) (target_of j.args.text) = j.judge.ensures ∙ (λ i. judged_of (j.bytes_of.ensures i) (j.target.ensures i) (j.target-2.ensures i)) in
    ap (opened_by j.in-Some.span.start j.in-Some.span.length j.args.doubles j.args.text) (sym is ∙ judged)
    ∙ ap (λ (v : Option Span). opened_in v j.args.doubles j.args.text j.args.file.now) (sym j.in-Some.is)

pub returns-in_err-count : goal.returns-in_err-count
returns-in_err-count c =
    let p = err_from_is_err_and c.from_residual.result c.from_residual.ensures.1 in
    rw (p.1, p.2) (by-judged (goal.at.returns-in_err-count c).After-judge c.in_err-count.was)

pub returns : goal.returns
returns c =
    (λ i. Ok (record { count = c.in_ok-count.count; start = c.in-Some.span.start; length = c.in-Some.span.length; doubles = c.start_of.ensures i; text = c.start_of-2.ensures i }))
    ∙ by-judged (goal.at.returns c).After-judge c.in_ok-count.was
