use mathlib.Core.Path.{ap, sym}
use Rattle.header_write.specs.Bytes.{evlr_back}
use Rattle.header_write.proofs.evlr_back.Goals as goal

pub returns-in-None : goal.returns-in-None
returns-in-None c = ap evlr_back (sym c.in-None.is)
