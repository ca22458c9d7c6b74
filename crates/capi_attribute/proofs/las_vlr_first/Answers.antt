use mathlib.Core.Path.{sym, ap, ◌∙◌}
use Rattle.capi_attribute.specs.Rows.{first_by, first_row}
use Rattle.capi_attribute.proofs.las_vlr_first.Goals as goal

pub returns-in-Ok : goal.returns-in-Ok
returns-in-Ok c =
    let a = c.args in
    c.tell_first.ensures ∙ ap (first_by a.span.now) c.first.ensures
    ∙ ap (first_row a.user.now a.record_id a.file.now a.span.now) (sym c.in-Ok.is ∙ c.open.ensures)

pub returns-in-Err : goal.returns-in-Err
returns-in-Err c =
    let a = c.args in
    (λ i. (c.refuse.ensures i, a.span.now))
    ∙ ap (first_row a.user.now a.record_id a.file.now a.span.now) (sym c.in-Err.is ∙ c.open.ensures)
