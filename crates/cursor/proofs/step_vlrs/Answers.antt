use mathlib.Core.Path.{sym, ◌∙◌}
use borrow.Author.Rules.{rules}
use borrow.Author.Tests.{le-ltb, lt-ltb}
use Rattle.cursor.specs.Cursor.{vlrs_step}
use Rattle.cursor.specs.Laws.{gap-told, gap_passed}
use Rattle.cursor.proofs.step_vlrs.Goals as goal

pub step_record-requires : goal.step_record-requires
unfolding vlrs_step
step_record-requires c = search rules

pub returns-then-c-gt0 : goal.returns-then-c-gt0
unfolding vlrs_step
returns-then-c-gt0 c = rw (lt-ltb _ _ c.if-c-gt0.true) c.step_record.ensures

pub overflow_sub-p : goal.overflow_sub-p
unfolding vlrs_step
overflow_sub-p c = search rules

pub told-requires : goal.told-requires
unfolding vlrs_step
told-requires c = search rules

pub returns-then-c-p : goal.returns-then-c-p
unfolding vlrs_step
returns-then-c-p c = rw (le-ltb _ _ c.if-c-gt0.false) (c.told.ensures ∙ sym (gap-told _ _ _ _ c.if-c-p.true))

pub step_points-requires : goal.step_points-requires
unfolding vlrs_step
step_points-requires c = search rules

pub returns : goal.returns
unfolding vlrs_step
returns c = rw (le-ltb _ _ c.if-c-gt0.false) (c.step_points.ensures ∙ sym (gap_passed _ _ _ _ c.if-c-p.false))
