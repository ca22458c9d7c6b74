use Rattle.capi_vlr.specs.Rows.{numbers_of}
use Rattle.capi_vlr.proofs.numbers_of.Goals as goal

pub returns : goal.returns
unfolding numbers_of
returns c = rw c.to_u64.ensures
