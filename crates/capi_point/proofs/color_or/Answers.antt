use mathlib.Core.Path.{sym, ap}
use Rattle.capi_point.specs.Numbers.{color_or}
use Rattle.capi_point.proofs.color_or.Goals as goal

pub returns-in-None : goal.returns-in-None
returns-in-None c = sym (ap color_or c.in-None.is)
