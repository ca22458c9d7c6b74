use mathlib.Core.Path.{ap, ◌∙◌}
use Rattle.strict.specs.Upgrade.{upgraded_of}
use Rattle.capi_point.specs.Numbers.{numbers_of}
use Rattle.capi_strict.proofs.las_strict_upgraded.Goals as goal

pub returns : goal.returns
returns c =
    c.numbers_of.ensures ∙ ap numbers_of (c.upgraded-point.ensures ∙ ap upgraded_of c.point_from.ensures)
