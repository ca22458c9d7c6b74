use mathlib.Core.Path.{sym, ap, ◌∙◌}
use Rattle.capi_attribute.specs.Rows.{begun_row}
use Rattle.capi_attribute.proofs.las_attributes.Goals as goal

pub returns-in-Ok : goal.returns-in-Ok
returns-in-Ok c =
    let a = c.args in
    (λ i. (c.tell.ensures i, c.place_numbers.ensures i))
    ∙ ap (begun_row a.attributes.now) (sym c.in-Ok.is ∙ c.begin.ensures)

pub returns-in-Err : goal.returns-in-Err
returns-in-Err c =
    let a = c.args in
    (λ i. (c.refuse.ensures i, a.attributes.now))
    ∙ ap (begun_row a.attributes.now) (sym c.in-Err.is ∙ c.begin.ensures)
