use mathlib.Core.Path.{ap, ◌∙◌}
use Rattle.le.specs.Real.{f32_of}
use Rattle.le.proofs.f32_at.Goals as goal

pub returns : goal.returns
returns c = c.from_bits.ensures ∙ ap f32_of c.u32_at.ensures
