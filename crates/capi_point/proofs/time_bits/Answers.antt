use mathlib.Core.Path.{sym, ap, ◌∙◌}
use Rattle.capi_point.specs.Numbers.{time_bits_of}
use Rattle.capi_point.proofs.time_bits.Goals as goal

pub returns-in-Some : goal.returns-in-Some
returns-in-Some c = c.to_bits.ensures ∙ sym (ap time_bits_of c.in-Some.is)
