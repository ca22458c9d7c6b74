use mathlib.Core.Path.{◌≡◌, sym, ap, ◌∙◌}
use Rattle.descriptor.specs.declared.Descriptor.{Descriptor}
use Rattle.descriptor.specs.Descriptor.{written_of}
use Rattle.words.specs.Rows.{wrote_row, written_row}
use Rattle.capi_descriptor.specs.Rows.{descriptor_from}
use Rattle.capi_descriptor.proofs.las_descriptor_write.Goals as goal
use Rattle.capi_descriptor.proofs.las_descriptor_write.Goals.{After-write_to}

-- what is written, of the descriptor that the numbers and texts give
written : (w : After-write_to) → let a = w.args in written_row (w.write_to.result, w.write_to.new.dst) ≡ written_row (written_of (descriptor_from a.numbers.now a.name.now a.deprecated.now a.description.now) a.dst.now)
written w =
    let a = w.args in
    ap written_row (w.write_to.ensures ∙ ap (λ (v : Descriptor). written_of v a.dst.now) {y = descriptor_from a.numbers.now a.name.now a.deprecated.now a.description.now} w.descriptor_from-descriptor.ensures)

pub returns-in-Ok : goal.returns-in-Ok
returns-in-Ok c =
    (λ i. ((c.tell.ensures ∙ ap wrote_row (sym c.in-Ok.is)) i, c.write_to.new.dst)) ∙ written (goal.at.returns-in-Ok c).After-write_to

pub returns-in-Err : goal.returns-in-Err
returns-in-Err c =
    (λ i. ((c.refuse.ensures ∙ ap wrote_row (sym c.in-Err.is)) i, c.write_to.new.dst)) ∙ written (goal.at.returns-in-Err c).After-write_to
