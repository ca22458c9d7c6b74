use Rattle.std.specs.Prelude.{Option}
use Rattle.first_vlr.specs.declared.Span.{Span}
use mathlib.Core.Path.{◌≡◌, sym, ap, ◌∙◌}
use borrow.Author.Tests.{eq-eqb, ne_eqb}
use Prim.Native.Nat.{ℕ}
use Rattle.keys.specs.Keys.{part_of, told_by, told_of}
use Rattle.keys.proofs.told.Goals as goal
use Rattle.keys.proofs.told.Goals.{After-part_of, Start}

pub returns-then-entry-eq0 : goal.returns-then-entry-eq0
unfolding told_of
returns-then-entry-eq0 c = rw (eq-eqb _ _ c.if-entry-eq0.true)

-- by the part that the entry points to
module _ (x : After-part_of) where
  abbrev a : Start
  a = (goal.at.After-part_of x).Start

  part-told : {p : Option Span} → x.part_of.result ≡ p → told_by a.args.entry p ≡ told_of a.args.len a.args.keys a.args.entry
  unfolding told_of
  part-told is =
      rw (ne_eqb _ _ x.if-entry-eq0.false)
      (ap (told_by a.args.entry) (sym is ∙ x.part_of.ensures ∙ ap (λ (b : ℕ). part_of a.args.len b a.args.entry) x.base.ensures))

pub returns-in_err-part : goal.returns-in_err-part
returns-in_err-part c = rw c.from_residual.ensures (part-told (goal.at.returns-in_err-part c).After-part_of c.in_err-part.was)

pub returns-then-entry-eq34736 : goal.returns-then-entry-eq34736
returns-then-entry-eq34736 c =
    rw (← part-told (goal.at.returns-then-entry-eq34736 c).After-part_of c.in_ok-part.was, eq-eqb _ _ c.if-entry-eq34736.true)

pub returns : goal.returns
returns c =
    rw (← part-told (goal.at.returns c).After-part_of c.in_ok-part.was, ne_eqb _ _ c.if-entry-eq34736.false)
