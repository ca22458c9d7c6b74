use Rattle.std.proofs.Common.{◌≡◌, ◌+◌, length, refl, sym, ap, ◌∙◌, arith, add-one}
use Rattle.cursor.specs.Cursor.{left_of}
use Rattle.cursor.specs.Count.{few_left}
use Rattle.cursor.specs.Laws.{has_part, has-none}
use Rattle.parts.proofs.count.Goals as goal
use Rattle.parts.proofs.count.Goals.{In-Some}

-- a part that is told is one of those left
one : (c : In-Some) → length (left_of c.args.file.now c.loop-step.c) ≡ length (left_of c.args.file.now c.in-Some.step.next) + 1
one c = ap length (has_part c.args.file.now c.loop-step.c (sym c.next.ensures ∙ c.in-Some.is)) ∙ sym (add-one _)

pub loop-step-init : goal.loop-step-init
loop-step-init c = omega arith

-- all are few enough to be counted
pub overflow_add-n : goal.overflow_add-n
overflow_add-n c =
    record { fits = omega (arith, c.loop-step.invariant, one (goal.at.overflow_add-n c).In-Some, few_left c.args.file.now c.args.c, c.well_formed.1.0) }

pub loop-step-smaller : goal.loop-step-smaller
loop-step-smaller c = omega (arith, one (goal.at.loop-step-smaller c).In-Some)

pub loop-step-preserved : goal.loop-step-preserved
loop-step-preserved c = omega (arith, c.loop-step.invariant, one (goal.at.loop-step-preserved c).In-Some)

pub returns : goal.returns
returns c =
    omega (arith, c.loop-step.invariant, ap length (has-none c.args.file.now c.loop-step.c (sym c.next.ensures ∙ c.in_default.is)))
