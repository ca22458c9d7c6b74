use Rattle.capi_vlr.specs.Rows.{vlr_from}
use Rattle.capi_vlr.proofs.vlr_from.Goals as goal

pub returns : goal.returns
unfolding vlr_from
returns c = rw c.length_from.ensures
