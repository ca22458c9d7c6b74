use mathlib.Core.Path.{ap, ◌∙◌}
use Rattle.le.specs.Le.{num}
use Rattle.attribute_value.specs.Value.{bits_of}
use Rattle.attribute_value.proofs.bits.Goals as goal

pub returns : goal.returns
unfolding bits_of
returns c = c.u64_at.ensures ∙ ap (num 8 0) c.bytes.ensures
