use mathlib.Core.Path.{ap, ◌∙◌}
use lib.ListN.{get_or, length}
use borrow.Author.Tests.{eq-eqb, ne_eqb}
use Rattle.walker.specs.Walk.{record_of}
use Rattle.words.specs.Rows.{part_row}
use Rattle.capi_walker.specs.Rows.{record_part}
use Rattle.capi_walker.proofs.las_file_record.Goals as goal

pub returns-then-place-ne0 : goal.returns-then-place-ne0
unfolding record_part
returns-then-place-ne0 c = rw (ne_eqb _ _ c.if-place-ne0.true)

pub returns : goal.returns
unfolding record_part
returns c =
    let a = c.args in
    let bytes = c.record_at-record.ensures ∙ ap (record_of a.file.now) c.place_from.ensures in
    rw (eq-eqb _ _ c.if-place-ne0.false) (c.tell_part.ensures ∙ λ i. part_row (get_or a.place.now 1 0) (length (bytes i)))
