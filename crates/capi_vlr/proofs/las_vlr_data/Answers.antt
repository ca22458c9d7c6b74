use mathlib.Core.Path.{◌∙◌}
use lib.ListN.{length}
use Rattle.words.specs.Rows.{part_row}
use Rattle.capi_vlr.specs.Rows.{data_part}
use Rattle.capi_vlr.proofs.las_vlr_data.Goals as goal

pub returns : goal.returns
unfolding data_part
returns c =
    c.tell_part.ensures ∙ λ i. part_row (c.las_vlr_head_size.ensures i) (length (c.data-data.ensures i))
