use Rattle.std.specs.Prelude.{Ok, Err}
use Rattle.refusal.specs.declared.Refused.{Refused}
use Rattle.std.proofs.lemmas.Result.{err_from_is_err_and}
use mathlib.Core.Path.{◌≡◌, ap, sym, ◌∙◌}
use mathlib.Core.List.{List}
use Prim.Native.Nat.{ℕ}
use native.Mathlib.Omega.{arith}
use lib.ListN.{length}
use Rattle.header.specs.Answers.{read_whole, header_is}
use Rattle.outline.specs.Outline.{outline_of}
use Rattle.file.specs.Holds.{holds-judged}
use Rattle.file.specs.Theorems.{accepted-holds}
use Rattle.cursor.specs.Parts.{outline_in}
use Rattle.cursor.specs.Started.{started_at}
use Rattle.rewrite.proofs.Answer.{left_tiles, no_room, all-written, not_begun}
use Rattle.rewrite.proofs.rewrite.Goals as goal
use Rattle.rewrite.proofs.rewrite.Goals.{After-of}

-- By what the started cursor answers: `Answer` says what each answer means, and the outline that is read is the file's.
-- the outline is the file's
is-outline : (x : After-of) → x.of.result ≡ outline_in x.args.file.now
is-outline x = x.of.ensures ∙ ap outline_of (header_is x.args.file.now (sym x.read_from.ensures ∙ x.in_ok-header.was))

-- a cursor was answered
pub returns-then-dst-n : goal.returns-then-dst-n
returns-then-dst-n c =
    let a = c.args in
    ap (λ (e : Refused). (Err e, a.dst.now)) c.into.ensures
    ∙ no_room a.allowance a.file.now a.dst.now (sym c.start.ensures ∙ c.in_ok-c.was) c.if-dst-n.true

pub rewrite_parts-requires : goal.rewrite_parts-requires
rewrite_parts-requires c =
    let a = c.args in
    (rw (is-outline (goal.at.rewrite_parts-requires c).After-of) (left_tiles a.allowance a.file.now (λ k. omega (arith, c.shared_slice_known-1.given k)) (sym c.start.ensures ∙ c.in_ok-c.was)), c.if-dst-n.false)

pub returns : goal.returns
returns c =
    let a = c.args in
    ap (λ (l : List ℕ). (Ok (length a.file.now), l)) (rw (is-outline (goal.at.returns c).After-of) at c.rewrite_parts.ensures)
    ∙ all-written a.allowance a.file.now a.dst.now (sym c.start.ensures ∙ c.in_ok-c.was) c.if-dst-n.false

pub returns-in_err-c : goal.returns-in_err-c
returns-in_err-c c =
    let a = c.args in
    let p = err_from_is_err_and c.from_residual.result c.from_residual.ensures.1 in
    rw (p.1, p.2) (not_begun a.allowance a.file.now a.dst.now (sym c.start.ensures ∙ c.in_err-c.was))

-- the header of an accepted file is read
pub returns-in_err-header : goal.returns-in_err-header
returns-in_err-header c =
    let a = c.args in
    let s = a.file.now in
    let whole = holds-judged s (accepted-holds a.allowance s (started_at a.allowance s (sym c.start.ensures ∙ c.in_ok-c.was)).1).header in
    let never : Err c.in_err-header.field-0.0 ≡ Ok _ = sym c.in_err-header.was ∙ c.read_from.ensures ∙ read_whole s whole in
    absurd cc
