use mathlib.Core.Path.{ap, ◌∙◌}
use Rattle.le.specs.Real.{f64_of}
use Rattle.capi_header_write.proofs.value.Goals as goal

pub returns : goal.returns
returns c = λ i. ((c.from_bits.ensures ∙ ap f64_of c.nth.ensures) i).value
