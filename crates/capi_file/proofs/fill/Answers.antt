use Prim.Native.Nat.{◌+◌, ◌*◌, ◌≤◌}
use mathlib.Core.Path.{◌≡◌, refl, ap, sym, ◌∙◌}
use mathlib.Core.List.{◌∷◌}
use native.Mathlib.Numerals.{add-one}
use native.Mathlib.Omega.{arith}
use lib.ListN.{length, set, length-set}
use lib.Seq.{sets}
use Rattle.lent.specs.Laws.{whole}
use Rattle.cursor.specs.Cursor.{left_of}
use Rattle.cursor.specs.Laws.{has_part, has-none}
use Rattle.capi_file.specs.Parts.{numbers_of}
use Rattle.capi_file.proofs.Stored.{length-numbers, turn}
use Rattle.capi_file.proofs.fill.Goals as goal
use Rattle.capi_file.proofs.fill.Goals.{In-Some}

pub loop-step-init : goal.loop-step-init
loop-step-init c = (omega (arith, c.requires), refl, refl)

-- the part that is told is one of those left, and there is room for its three numbers
module _ (c : In-Some) where
  left : left_of c.args.file.now c.loop-step.c ≡ c.in-Some.step.part ∷ left_of c.args.file.now c.in-Some.step.next
  left = has_part c.args.file.now c.loop-step.c (sym c.next.ensures ∙ c.in-Some.is)

  one : length (left_of c.args.file.now c.loop-step.c) ≡ length (left_of c.args.file.now c.in-Some.step.next) + 1
  one = ap length left ∙ sym (add-one _)

  room : c.loop-step.at + 3 ≤ length c.loop-step.table
  room = omega (arith, c.loop-step.invariant.0, one)

pub loop-step-smaller : goal.loop-step-smaller
loop-step-smaller c = omega (arith, one (goal.at.loop-step-smaller c).In-Some)

pub loop-step-preserved : goal.loop-step-preserved
loop-step-preserved c =
    let l = c.loop-step in
    let p = c.in-Some.step.part in
    let k = c.kind_number in
    let x = (goal.at.loop-step-preserved c).In-Some in
    let same : length (set (set (set l.table l.at k.result) (l.at + 1) p.start) (l.at + 2) p.length) ≡ length l.table = rw (length-set, length-set, length-set) in (
      omega (arith, same, l.invariant.0, one x),
      same ∙ l.invariant.1,
      turn l.table l.at k.result p _ _ (left x) k.ensures ∙ l.invariant.2,
    )

pub returns : goal.returns
unfolding numbers_of
returns c =
    let l = c.loop-step in
    let a = c.args in
    let s = a.file.now in
    let none = has-none s l.c (sym c.next.ensures ∙ c.in_default.is) in
    rw none at l.invariant.2
    ∙ whole a.table.now (numbers_of (left_of s a.c)) (3 * length (left_of s a.c)) (length-numbers (left_of s a.c)) c.requires

pub offset_bounds-table-at : goal.offset_bounds-table-at
offset_bounds-table-at c = omega (arith, room (goal.at.offset_bounds-table-at c).In-Some)

pub bounds-table-at : goal.bounds-table-at
bounds-table-at c = omega (arith, room (goal.at.bounds-table-at c).In-Some)

pub overflow_add-table : goal.overflow_add-table
overflow_add-table c = omega (arith, room (goal.at.overflow_add-table c).In-Some)

pub offset_bounds-table-at-in-Some : goal.offset_bounds-table-at-in-Some
offset_bounds-table-at-in-Some c = omega (arith, room (goal.at.offset_bounds-table-at-in-Some c).In-Some)

pub bounds-table-at-in-Some : goal.bounds-table-at-in-Some
bounds-table-at-in-Some c = rw length-set (omega (arith, room (goal.at.bounds-table-at-in-Some c).In-Some))

pub overflow_add-table-in-Some : goal.overflow_add-table-in-Some
overflow_add-table-in-Some c = omega (arith, room (goal.at.overflow_add-table-in-Some c).In-Some)

pub offset_bounds-table-at-in-Some-2 : goal.offset_bounds-table-at-in-Some-2
offset_bounds-table-at-in-Some-2 c = omega (arith, room (goal.at.offset_bounds-table-at-in-Some-2 c).In-Some)

pub bounds-table-at-in-Some-2 : goal.bounds-table-at-in-Some-2
bounds-table-at-in-Some-2 c = rw (length-set, length-set) (omega (arith, room (goal.at.bounds-table-at-in-Some-2 c).In-Some))

pub overflow_add-at : goal.overflow_add-at
overflow_add-at c = omega (arith, room (goal.at.overflow_add-at c).In-Some)
