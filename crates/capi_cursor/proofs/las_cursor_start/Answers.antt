use mathlib.Core.Path.{sym, ap, ◌∙◌}
use Rattle.capi_cursor.specs.Numbers.{started_row}
use Rattle.capi_cursor.proofs.las_cursor_start.Goals as goal

pub returns-in-Ok : goal.returns-in-Ok
returns-in-Ok c =
    let a = c.args in
    (λ i. (c.tell.ensures i, c.cursor_numbers.ensures i))
    ∙ ap (started_row a.numbers.now) (sym c.in-Ok.is ∙ c.start.ensures)

pub returns-in-Err : goal.returns-in-Err
returns-in-Err c =
    let a = c.args in
    (λ i. (c.refuse.ensures i, a.numbers.now))
    ∙ ap (started_row a.numbers.now) (sym c.in-Err.is ∙ c.start.ensures)
