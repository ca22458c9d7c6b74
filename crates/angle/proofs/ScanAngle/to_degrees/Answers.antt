use mir.Syntax.{w8, w16}
use Rattle.angle.specs.Angle.{step}
use Rattle.le.proofs.Twos.{kept}
use Rattle.angle.proofs.ScanAngle.to_degrees.Goals as goal

-- The number in the variant is what its bits are read as.
pub returns-in-Rank : goal.returns-in-Rank
returns-in-Rank c = rw (c.in-Rank.is, kept w8 _ c.in-Rank.known_told-1-own.given.0.1)

pub returns-in-Scaled : goal.returns-in-Scaled
unfolding step
returns-in-Scaled c = rw (c.in-Scaled.is, kept w16 _ c.in-Scaled.known_told-in-Scaled-1-own.given.0.1)
