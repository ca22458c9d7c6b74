use mathlib.Core.Path.{sym, ◌∙◌}
use borrow.Author.Rules.{rules}
use Rattle.cursor.specs.Cursor.{between_step}
use Rattle.cursor.specs.Laws.{gap-told, gap_passed}
use Rattle.cursor.proofs.step_between.Goals as goal

pub overflow_sub-p : goal.overflow_sub-p
unfolding between_step
overflow_sub-p c = search rules

pub told-requires : goal.told-requires
unfolding between_step
told-requires c = search rules

pub returns-then-c-p : goal.returns-then-c-p
unfolding between_step
returns-then-c-p c = c.told.ensures ∙ sym (gap-told _ _ _ _ c.if-c-p.true)

pub step_later-requires : goal.step_later-requires
unfolding between_step
step_later-requires c = search rules

pub returns : goal.returns
unfolding between_step
returns c = c.step_later.ensures ∙ sym (gap_passed _ _ _ _ c.if-c-p.false)
