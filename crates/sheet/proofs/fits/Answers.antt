use Prim.Native.Nat.{ℕ, ◌-◌, ◌≤◌}
use mathlib.Core.Path.{◌≡◌, refl, sym}
use mathlib.Core.Bool.{Bool, true, false}
use native.Mathlib.Omega.{arith}
use borrow.Author.Tests.{leb-true, leb-false}
use lib.Dec.{leb}
use Rattle.sheet.specs.Sheet.{fits_in}
use Rattle.sheet.specs.Laws.{says_fits, not-fits}
use Rattle.sheet.proofs.fits.Goals as goal

-- the sum, without the sum
rest : (a b : ℕ) → a ≤ 18446744073709551615 → leb b (18446744073709551615 - a) ≡ fits_in a b
rest a b h = go (leb b (18446744073709551615 - a)) refl
  where
    go : (t : Bool) → leb b (18446744073709551615 - a) ≡ t → t ≡ fits_in a b
    go true e = sym (says_fits a b (omega (arith, leb-true b (18446744073709551615 - a) e)))
    go false e = sym (not-fits a b (omega (arith, leb-false b (18446744073709551615 - a) e)))

pub returns : goal.returns
returns c = rest c.args.a c.args.b (omega arith)
