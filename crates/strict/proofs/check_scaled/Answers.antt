use mathlib.Core.Path.{◌≡◌}
use mir.Syntax.{w16}
use mir.Val.{to_z, of_z}
use mir.ValLaws.{to_z-of_z}
use Rattle.angle.specs.Angle.{nearest_rank}
use Rattle.strict.specs.Fit.{rank_fits, angle_fit_of}
use Rattle.strict.proofs.check_scaled.Goals as goal
use Rattle.strict.proofs.check_scaled.Goals.{After-scaled_fits, Start}

seen : (c : Start) → to_z w16 (of_z w16 c.args.n) ≡ c.args.n
seen c = to_z-of_z w16 c.args.n c.ranges.n

asked : (c : After-scaled_fits) → c.scaled_fits.result ≡ rank_fits (nearest_rank c.args.n)
asked c = rw (seen (goal.at.After-scaled_fits c).Start) at c.scaled_fits.ensures

pub returns-then-scaled_fits : goal.returns-then-scaled_fits
unfolding angle_fit_of
returns-then-scaled_fits c = rw (← (asked (goal.at.returns-then-scaled_fits c).After-scaled_fits), c.if-scaled_fits.true)

pub returns : goal.returns
unfolding angle_fit_of
returns c =
    rw (← (asked (goal.at.returns c).After-scaled_fits), c.if-scaled_fits.false, c.cast_unsigned.ensures, seen (goal.at.returns c).Start)
