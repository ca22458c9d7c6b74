use Rattle.std.proofs.Common.{◌≡◌, ◌+◌, sym, ◌∙◌, length, arith}
use Rattle.std.specs.Prelude.{Some}
use Rattle.cursor.specs.Cursor.{step_of, left_of}
use Rattle.cursor.specs.Count.{few_left}
use Rattle.findings.specs.Laws.{driving, more, starts, driven, ended}
use Rattle.findings.proofs.tell_parts.Goals as goal
use Rattle.findings.proofs.tell_parts.Goals.{In-Some}

pub loop-step-init : goal.loop-step-init
loop-step-init c = driving _ _ _ _ c.requires.covers

-- a step that has a part
module _ (e : In-Some) where
  has : step_of e.args.file.now e.loop-step.c ≡ Some e.in-Some.step
  has = sym e.next.ensures ∙ e.in-Some.is

  one : e.loop-step.number + length (left_of e.args.file.now e.in-Some.step.next) + 1 ≡ 1 + length (left_of e.args.file.now e.args.c)
  one = more _ _ _ _ e.loop-step.invariant e.in-Some.step has

pub tell_part-n-requires : goal.tell_part-n-requires
tell_part-n-requires c =
    (c.requires.surveyed, starts _ _ _ _ c.loop-step.invariant c.in-Some.step (has (goal.at.tell_part-n-requires c).In-Some))

pub overflow_add-number : goal.overflow_add-number
overflow_add-number c =
    record { fits = omega (arith, one (goal.at.overflow_add-number c).In-Some, few_left c.args.file.now c.args.c, c.well_formed.1.1.0) }

pub loop-step-smaller : goal.loop-step-smaller
loop-step-smaller c = omega (arith, one (goal.at.loop-step-smaller c).In-Some, c.loop-step.invariant.counted)

pub loop-step-preserved : goal.loop-step-preserved
loop-step-preserved c =
    driven _ _ _ _ c.loop-step.invariant c.in-Some.step (has (goal.at.loop-step-preserved c).In-Some) c.tell_part-n.ensures

pub returns : goal.returns
returns c = ended _ _ _ _ c.loop-step.invariant (sym c.next.ensures ∙ c.in_default.is)
