use mathlib.Core.Path.{ap, ◌∙◌}
use mir.Syntax.{w16}
use Rattle.le.proofs.Twos.{kept}
use Rattle.strict.specs.Upgrade.{upgraded_to, to_its_own}
use Rattle.strict.proofs.upgraded.Goals as goal

pub returns : goal.returns
returns c =
    let p = c.args.point in
    c.upgraded_to.ensures ∙ ap (upgraded_to p) (kept w16 _ c.to_scaled.type_inv ∙ c.to_scaled.ensures) ∙ to_its_own p
