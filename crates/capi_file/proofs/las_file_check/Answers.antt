use mathlib.Core.Path.{sym, ap, ◌∙◌}
use mathlib.Core.List.{[], ◌∷◌}
use Rattle.capi_file.specs.Rows.{checked_row}
use Rattle.capi_file.proofs.las_file_check.Goals as goal

pub returns-in-Ok : goal.returns-in-Ok
returns-in-Ok c = ap checked_row (sym c.in-Ok.is ∙ c.check.ensures)

pub returns-in-Err : goal.returns-in-Err
returns-in-Err c =
    let told = c.row-told in
    (λ i. (told.ensures i).number ∷ (told.ensures i).value ∷ (told.ensures i).«record» ∷ c.in-Err.found.records ∷ [])
    ∙ ap checked_row (sym c.in-Err.is ∙ c.check.ensures)
