use mathlib.Core.Path.{sym, ap, ◌∙◌}
use Rattle.point_write.specs.Write.{written_of}
use Rattle.words.specs.Rows.{wrote_row, written_row}
use Rattle.capi_point.proofs.las_point_write.Goals as goal

pub returns-in-Ok : goal.returns-in-Ok
returns-in-Ok c =
    let a = c.args in
    (λ i. ((c.tell.ensures ∙ ap wrote_row (sym c.in-Ok.is)) i, c.write_to.new.dst))
    ∙ ap written_row (c.write_to.ensures ∙ (λ i. written_of (c.format_of.ensures i) (c.point_from-point.ensures i) a.extra.now a.dst.now))

pub returns-in-Err : goal.returns-in-Err
returns-in-Err c =
    let a = c.args in
    (λ i. ((c.refuse.ensures ∙ ap wrote_row (sym c.in-Err.is)) i, c.write_to.new.dst))
    ∙ ap written_row (c.write_to.ensures ∙ (λ i. written_of (c.format_of.ensures i) (c.point_from-point.ensures i) a.extra.now a.dst.now))
