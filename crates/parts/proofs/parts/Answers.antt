use Rattle.std.proofs.Common.{◌≡◌, ◌+◌, ◌<◌, ℕ, List, ◌∷◌, Ok, length, refl, sym, ap, ◌∙◌, arith, rules, add-one, length-set}
use Rattle.std.proofs.lemmas.Result.{err_from_is_err_and}
use Rattle.cursor.specs.declared.Part.{Part}
use Rattle.cursor.specs.Cursor.{left_of}
use Rattle.cursor.specs.Laws.{has_part, has-none}
use Rattle.parts.specs.Laws.{turn, roomy, told_of, told_is}
use Rattle.parts.proofs.parts.Goals as goal
use Rattle.parts.proofs.parts.Goals.{In-Some}

-- a refusal changes nothing
pub returns-in_err-c : goal.returns-in_err-c
returns-in_err-c c =
    let p = err_from_is_err_and c.from_residual.result c.from_residual.ensures.1 in
    let t = c.args.table.now in
    rw (p.1, p.2)
    (ap (told_of c.args.file.now t) (sym c.in_err-c.was ∙ c.start.ensures) ∙ told_is c.args.allowance c.args.file.now t)

-- the part that is told is one of those left, and the table has room for it
module _ (c : In-Some) where
  left : left_of c.args.file.now c.loop-step.c ≡ c.in-Some.step.part ∷ left_of c.args.file.now c.in-Some.step.next
  left = has_part c.args.file.now c.loop-step.c (sym c.next.ensures ∙ c.in-Some.is)

  one : length (left_of c.args.file.now c.loop-step.c) ≡ length (left_of c.args.file.now c.in-Some.step.next) + 1
  one = ap length left ∙ sym (add-one _)

  room : c.loop-step.i < length c.loop-step.table
  room =
      let all = roomy c.args.file.now (length c.args.table.now) c.args.allowance (sym c.start.ensures ∙ c.in_ok-c.was) in
      omega (arith, one, all, c.loop-step.invariant)

pub loop-step-init : goal.loop-step-init
loop-step-init c = (refl, omega arith, refl)

pub offset_bounds-table-i : goal.offset_bounds-table-i
offset_bounds-table-i c = let lt = room (goal.at.offset_bounds-table-i c).In-Some in search rules

pub bounds-table-i : goal.bounds-table-i
bounds-table-i c = room (goal.at.bounds-table-i c).In-Some

pub overflow_add-i : goal.overflow_add-i
overflow_add-i c = let lt = room (goal.at.overflow_add-i c).In-Some in search rules

pub loop-step-smaller : goal.loop-step-smaller
loop-step-smaller c = omega (arith, one (goal.at.loop-step-smaller c).In-Some)

-- one entry more is set, to the part that the cursor told
pub loop-step-preserved : goal.loop-step-preserved
loop-step-preserved c =
    let l = c.loop-step in
    let x = (goal.at.loop-step-preserved c).In-Some in (
      length-set l.table l.i c.in-Some.step.part ∙ l.invariant.0,
      omega (arith, one x, l.invariant.1),
      sym (turn l.table l.i _ _ c.in-Some.step.part (left x)) ∙ l.invariant.2,
    )

-- the table with the parts set is the promised one
pub returns : goal.returns
returns c =
    let s = c.args.file.now in
    let l = c.loop-step in
    let t = c.args.table.now in
    let none = has-none s l.c (sym c.next.ensures ∙ c.in_default.is) in
    let count : l.i ≡ length (left_of s c.in_ok-c.c) = omega (arith, ap length none, l.invariant.1) in
    (λ i. (Ok (count i), (rw none at l.invariant.2) i))
    ∙ ap (told_of s t) (sym c.in_ok-c.was ∙ c.start.ensures)
    ∙ told_is c.args.allowance s t
