use Rattle.vlr.specs.Vlr.{no_vlr}
use Rattle.vlr.proofs.VlrDefault.default.Goals as goal

pub returns : goal.returns
unfolding no_vlr
returns c = rw c.default.ensures
