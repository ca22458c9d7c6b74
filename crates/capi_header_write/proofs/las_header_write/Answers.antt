use mathlib.Core.Path.{sym, ap, ◌∙◌}
use Rattle.header.specs.declared.Header.{Header}
use Rattle.header_write.specs.Wrote.{wrote_of}
use Rattle.words.specs.Rows.{wrote_row, written_row}
use Rattle.capi_header_write.specs.Numbers.{header_from}
use Rattle.capi_header_write.proofs.las_header_write.Goals as goal

pub returns-in-Ok : goal.returns-in-Ok
returns-in-Ok c =
    let a = c.args in
    (λ i. ((c.tell.ensures ∙ ap wrote_row (sym c.in-Ok.is)) i, c.write_to.new.dst))
    ∙ ap written_row (c.write_to.ensures ∙ ap (λ (h : Header). wrote_of h a.padding.now a.dst.now) {y = header_from a.numbers.now a.guid.now a.system.now a.software.now} c.header_from-header.ensures)

pub returns-in-Err : goal.returns-in-Err
returns-in-Err c =
    let a = c.args in
    (λ i. ((c.refuse.ensures ∙ ap wrote_row (sym c.in-Err.is)) i, c.write_to.new.dst))
    ∙ ap written_row (c.write_to.ensures ∙ ap (λ (h : Header). wrote_of h a.padding.now a.dst.now) {y = header_from a.numbers.now a.guid.now a.system.now a.software.now} c.header_from-header.ensures)
