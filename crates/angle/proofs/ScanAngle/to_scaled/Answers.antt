use mathlib.Core.Path.{sym, ap, ◌∙◌}
use mir.Syntax.{w8, w16}
use Rattle.le.proofs.Twos.{kept}
use Rattle.angle.specs.Angle.{scaled_of, to_scaled}
use Rattle.angle.proofs.ScanAngle.to_scaled.Goals as goal

pub returns-in-Rank : goal.returns-in-Rank
returns-in-Rank c =
    kept w16 _ c.scaled.type_inv ∙ c.scaled.ensures
    ∙ ap scaled_of (kept w8 _ c.in-Rank.known_told-1-own.given.0.1) ∙ sym (ap to_scaled c.in-Rank.is)

pub returns-in-Scaled : goal.returns-in-Scaled
returns-in-Scaled c = kept w16 _ c.in-Scaled.known_told-in-Scaled-1-own.given.0.1 ∙ sym (ap to_scaled c.in-Scaled.is)
