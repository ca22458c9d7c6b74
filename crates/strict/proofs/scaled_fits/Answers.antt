use Prim.Native.Nat.{ℕ, zero, suc, ◌+◌, ◌*◌, ◌<◌, ◌≤◌}
use mathlib.Core.Path.{◌≡◌, refl, ap, ◌∙◌}
use mathlib.Core.Bool.{Bool, true, false, not, ◌&&◌}
use native.Mathlib.Omega.{arith}
use borrow.Author.Tests.{leb-true, leb-false, lt-ltb, le-ltb}
use lib.Dec.{ltb, leb, leb-suc-suc}
use lib.IntN.{ℤ, pos, negsuc, neg_ℤ}
use lib.Signed.{le_z}
use mir.Syntax.{w16}
use mir.Val.{to_z, of_z}
use mir.ValLaws.{to_z-of_z}
use Rattle.angle.specs.Angle.{nearest, nearest_rank}
use Rattle.angle.specs.Ranks.{nearest-sided}
use Rattle.angle.specs.Theorems.{nearest-whole}
use Rattle.strict.specs.Fit.{rank_fits}
use Rattle.strict.proofs.scaled_fits.Goals as goal
use Rattle.strict.proofs.scaled_fits.Goals.{Start}

-- The tests stand where the nearest rank passes its ends.
-- a size has a rank up to k where it is at most the last that has one
within : (k last n : ℕ) → 6 * last < 1000 * k + 500 → 1000 * k + 500 ≤ 6 * last + 6 → not (ltb k (nearest n)) ≡ leb n last
within k last n h l = go (leb n last) refl
  where
    go : (t : Bool) → leb n last ≡ t → not (ltb k (nearest n)) ≡ t
    go true e = ap not (le-ltb k (nearest n) (omega (arith, leb-true n last e, (nearest-whole n).1)))
    go false e = ap not (lt-ltb k (nearest n) (omega (arith, leb-false n last e, (nearest-whole n).0)))

-- a rank that is not above zero is tested at the lower end
below : (m : ℕ) → rank_fits (neg_ℤ (pos m)) ≡ (not (ltb 90 m) && true)
unfolding rank_fits
below zero = refl
below (suc m) = rw (leb-suc-suc 90 m)

between : (n : ℤ) → rank_fits (nearest_rank n) ≡ (le_z (negsuc 15082) n && le_z n (pos 15083))
unfolding rank_fits
between (pos n) = ap rank_fits (nearest-sided (pos n)) ∙ within 90 15083 n (omega arith) (omega arith)
between (negsuc k) =
    ap rank_fits (nearest-sided (negsuc k))
    ∙ below (nearest (suc k))
    ∙ rw (within 90 15083 (suc k) (omega arith) (omega arith), leb-suc-suc k 15082)

seen : (c : Start) → to_z w16 (of_z w16 c.args.n) ≡ c.args.n
seen c = to_z-of_z w16 c.args.n c.ranges.n

pub returns-then-n-ge-LOWEST_SCALED : goal.returns-then-n-ge-LOWEST_SCALED
returns-then-n-ge-LOWEST_SCALED c =
    let above : le_z (negsuc 15082) c.args.n ≡ true = rw (seen (goal.at.returns-then-n-ge-LOWEST_SCALED c).Start) at c.if-n-ge-LOWEST_SCALED.true in
    rw (seen (goal.at.returns-then-n-ge-LOWEST_SCALED c).Start, between, above)

pub returns-else-n-ge-LOWEST_SCALED : goal.returns-else-n-ge-LOWEST_SCALED
returns-else-n-ge-LOWEST_SCALED c =
    let under : le_z (negsuc 15082) c.args.n ≡ false = rw (seen (goal.at.returns-else-n-ge-LOWEST_SCALED c).Start) at c.if-n-ge-LOWEST_SCALED.false in
    rw (seen (goal.at.returns-else-n-ge-LOWEST_SCALED c).Start, between, under)
