use mathlib.Core.Path.{sym, ap, ◌∙◌}
use mathlib.Core.List.{[], ◌∷◌}
use Rattle.capi_header.specs.Numbers.{points_row}
use Rattle.capi_header.proofs.las_header_points.Goals as goal

pub returns-in-Ok : goal.returns-in-Ok
returns-in-Ok c =
    c.tell.ensures ∙ (λ i. 0 ∷ c.number_of_point_records.ensures i ∷ 0 ∷ [])
    ∙ ap points_row (sym c.in-Ok.is ∙ c.read_from.ensures)

pub returns-in-Err : goal.returns-in-Err
returns-in-Err c = c.refuse.ensures ∙ ap points_row (sym c.in-Err.is ∙ c.read_from.ensures)
