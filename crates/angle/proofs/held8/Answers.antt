use borrow.Author.Tests.{ltb-false}
use mathlib.Core.Path.{◌≡◌}
use mathlib.Core.Bool.{true, false}
use native.Mathlib.Omega.{arith}
use lib.IntN.{ℤ, pos, negsuc}
use lib.Signed.{lt_z}
use mir.Syntax.{w8, w16}
use mir.Val.{SFits, to_z, of_z}
use mir.ValLaws.{to_z-of_z}
use Rattle.angle.specs.Angle.{held}
use Rattle.angle.proofs.held8.Goals as goal
use Rattle.angle.proofs.held8.Goals.{Else-k-gt127, Else-k-ltminus128, Start}

-- The tests are those by which `held` is defined; where both fail, the number fits.
inside : (z : ℤ) → lt_z z (negsuc 127) ≡ false → lt_z (pos 127) z ≡ false → SFits w8 z
inside (pos n) low high = record { sfits = omega (arith, ltb-false 127 n high) }
inside (negsuc n) low high = record { sfits = omega (arith, ltb-false 127 n low) }

seen : (c : Start) → to_z w16 (of_z w16 c.args.k) ≡ c.args.k
seen c = to_z-of_z w16 c.args.k c.ranges.k

pub returns-then-k-ltminus128 : goal.returns-then-k-ltminus128
unfolding held
returns-then-k-ltminus128 c = let below : lt_z c.args.k (negsuc 127) ≡ true = rw (seen (goal.at.returns-then-k-ltminus128 c).Start) at c.if-k-ltminus128.true in rw below

low : (c : Else-k-ltminus128) → lt_z c.args.k (negsuc 127) ≡ false
low c = rw (seen (goal.at.Else-k-ltminus128 c).Start) at c.if-k-ltminus128.false

pub returns-then-k-gt127 : goal.returns-then-k-gt127
unfolding held
returns-then-k-gt127 c = rw (low (goal.at.returns-then-k-gt127 c).Else-k-ltminus128, rw (seen (goal.at.returns-then-k-gt127 c).Start) at c.if-k-gt127.true)

high : (c : Else-k-gt127) → lt_z (pos 127) c.args.k ≡ false
high c = rw (seen (goal.at.Else-k-gt127 c).Start) at c.if-k-gt127.false

fits : (c : Else-k-gt127) → SFits w8 c.args.k
fits c = inside c.args.k (low (goal.at.Else-k-gt127 c).Else-k-ltminus128) (high c)

pub returns : goal.returns
unfolding held
returns c = rw (seen (goal.at.returns c).Start, to_z-of_z w8 c.args.k (fits c), low (goal.at.returns c).Else-k-ltminus128, high c)

pub overflow_cast-result : goal.overflow_cast-result
overflow_cast-result c = rw (seen (goal.at.overflow_cast-result c).Start) (fits c)
