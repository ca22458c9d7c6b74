use mathlib.Core.Path.{◌∙◌}
use lib.ListN.{length}
use Rattle.words.specs.Rows.{part_row}
use Rattle.capi_header.specs.Numbers.{block_of, padding_part}
use Rattle.capi_header.proofs.las_header_padding.Goals as goal

pub returns : goal.returns
unfolding padding_part
returns c =
    let block = c.block_of.ensures ∙ λ i. block_of (c.measure.ensures i) in
    c.tell_part.ensures ∙ λ i. part_row (block i) (length (c.padding-padding.ensures i))
