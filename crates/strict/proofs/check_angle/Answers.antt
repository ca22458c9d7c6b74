use mathlib.Core.Path.{ap, ◌∙◌}
use lib.IntN.{ℤ}
use mir.Syntax.{w16}
use Rattle.le.proofs.Twos.{kept}
use Rattle.angle.specs.declared.ScanAngle.TheVariants.{Scaled}
use Rattle.strict.specs.Fit.{angle_fit_of}
use Rattle.strict.specs.Whole.{scaled_alike}
use Rattle.strict.proofs.check_angle.Goals as goal

pub returns : goal.returns
returns c =
    c.check_scaled.ensures
    ∙ ap (λ (n : ℤ). angle_fit_of (Scaled n)) (kept w16 _ c.to_scaled.type_inv ∙ c.to_scaled.ensures)
    ∙ scaled_alike c.args.scan_angle
