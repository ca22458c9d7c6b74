use mir.Syntax.{w8, w16}
use Rattle.le.proofs.Twos.{kept}
use Rattle.point.specs.Read.{angle_at}
use Rattle.point.proofs.angle_at.Goals as goal

pub returns-then-is_extended : goal.returns-then-is_extended
unfolding angle_at
returns-then-is_extended c = rw (kept w16 _ c.i16_at.type_inv, c.i16_at.ensures, c.if-is_extended.true)

pub returns : goal.returns
unfolding angle_at
returns c = rw (kept w8 _ c.i8_at.type_inv, c.i8_at.ensures, c.if-is_extended.false)
