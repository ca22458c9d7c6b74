use mathlib.Core.Path.{sym, ◌∙◌}
use borrow.Author.Rules.{rules}
use borrow.Author.Tests.{le-ltb, lt-ltb}
use Rattle.cursor.specs.Cursor.{later_step}
use Rattle.cursor.specs.Laws.{gap-told, gap_passed}
use Rattle.cursor.proofs.step_later.Goals as goal

pub later_kind-requires : goal.later_kind-requires
unfolding later_step
later_kind-requires c = search rules

pub step_record-requires : goal.step_record-requires
unfolding later_step
step_record-requires c = search rules

pub returns-then-c-gt0 : goal.returns-then-c-gt0
unfolding later_step
returns-then-c-gt0 c = rw (lt-ltb _ _ c.if-c-gt0.true, ← c.later_kind.ensures) c.step_record.ensures

pub overflow_sub-len : goal.overflow_sub-len
unfolding later_step
overflow_sub-len c = search rules

pub told-requires : goal.told-requires
unfolding later_step
told-requires c = search rules

pub returns-then-c-len : goal.returns-then-c-len
unfolding later_step
returns-then-c-len c = rw (le-ltb _ _ c.if-c-gt0.false) (c.told.ensures ∙ sym (gap-told _ _ _ _ c.if-c-len.true))

pub returns : goal.returns
unfolding later_step
returns c = rw (le-ltb _ _ c.if-c-gt0.false) (sym (gap_passed _ _ _ _ c.if-c-len.false))
