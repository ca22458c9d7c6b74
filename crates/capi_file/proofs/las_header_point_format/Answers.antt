use mathlib.Core.Path.{sym, ap, ◌∙◌}
use mathlib.Core.List.{[], ◌∷◌}
use Rattle.words.specs.Words.{format_word}
use Rattle.file.specs.Points.{point_format}
use Rattle.capi_file.specs.Rows.{format_row}
use Rattle.capi_file.proofs.las_header_point_format.Goals as goal

pub returns-in-Ok : goal.returns-in-Ok
returns-in-Ok c =
    let word = c.format_word.ensures ∙ ap format_word (c.point_format-format.ensures ∙ ap point_format c.of.ensures) in
    c.tell.ensures ∙ (λ i. 0 ∷ word i ∷ 0 ∷ [])
    ∙ ap format_row (sym c.in-Ok.is ∙ c.read_from.ensures)

pub returns-in-Err : goal.returns-in-Err
returns-in-Err c = c.refuse.ensures ∙ ap format_row (sym c.in-Err.is ∙ c.read_from.ensures)
