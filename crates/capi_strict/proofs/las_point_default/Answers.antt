use mathlib.Core.Path.{ap, ◌∙◌}
use Rattle.capi_point.specs.Numbers.{numbers_of}
use Rattle.capi_strict.proofs.las_point_default.Goals as goal

pub returns : goal.returns
returns c = c.numbers_of.ensures ∙ ap numbers_of c.default.ensures
