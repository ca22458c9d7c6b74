use mathlib.Core.Path.{ap, ◌∙◌}
use Rattle.le.specs.Le.{bytes}
use Rattle.le.specs.Real.{f32_bits_is}
use Rattle.point_bytes.proofs.float_bytes.Goals as goal

pub returns : goal.returns
returns c = c.to_le_bytes.ensures ∙ ap (bytes 4) (c.to_bits.ensures ∙ f32_bits_is _)
