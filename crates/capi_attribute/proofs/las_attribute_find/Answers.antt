use mathlib.Core.Path.{sym, ap, ◌∙◌}
use Rattle.capi_attribute.specs.Rows.{found_row}
use Rattle.capi_attribute.proofs.las_attribute_find.Goals as goal

pub returns-in-Ok : goal.returns-in-Ok
returns-in-Ok c =
    let a = c.args in
    (λ i. (c.tell.ensures i, c.attribute_numbers.ensures i))
    ∙ ap (found_row a.attribute.now) (sym c.in-Ok.is ∙ c.find.ensures)

pub returns-in-Err : goal.returns-in-Err
returns-in-Err c =
    let a = c.args in
    (λ i. (c.refuse.ensures i, a.attribute.now))
    ∙ ap (found_row a.attribute.now) (sym c.in-Err.is ∙ c.find.ensures)
