use mathlib.Core.Path.{ap, ◌∙◌}
use Rattle.le.specs.Real.{f64_of}
use Rattle.le.proofs.f64_at.Goals as goal

pub returns : goal.returns
returns c = c.from_bits.ensures ∙ ap f64_of c.u64_at.ensures
