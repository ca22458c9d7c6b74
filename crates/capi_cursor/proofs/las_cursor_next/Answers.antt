use mathlib.Core.Path.{sym, ap, ◌∙◌}
use mathlib.Core.Bool.{true}
use Rattle.std.specs.Prelude.{Option}
use Rattle.cursor.specs.declared.Step.{Step}
use Rattle.cursor.specs.Cursor.{step_of}
use Rattle.capi_cursor.specs.Numbers.{stepped, stepped_row}
use Rattle.capi_cursor.proofs.las_cursor_next.Goals as goal

-- By what the call made: a step has a part, or there is none.
pub returns-in_default : goal.returns-in_default
unfolding stepped_row
returns-in_default c =
    let a = c.args in
    ap (λ (x : Option Step). stepped x a.numbers.now a.part.now) (sym c.in_default.is ∙ c.next.ensures ∙ ap (step_of a.file.now) c.cursor_from.ensures)

pub returns : goal.returns
unfolding stepped_row
returns c =
    let a = c.args in
    (λ i. (true, c.cursor_numbers.ensures i, c.part_numbers.ensures i))
    ∙ ap (λ (x : Option Step). stepped x a.numbers.now a.part.now) (sym c.in-Some.is ∙ c.next.ensures ∙ ap (step_of a.file.now) c.cursor_from.ensures)
