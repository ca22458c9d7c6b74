use Prim.Native.Nat.{◌+◌, ◌-◌}
use mathlib.Core.Path.{◌≡◌, refl}
use mathlib.Core.Bool.{Bool, true, false, cond}
use native.Mathlib.Omega.{arith}
use borrow.Author.Tests.{ltb-true, ltb-false}
use lib.Dec.{ltb}
use Rattle.finding.specs.Told.{plus}
use Rattle.finding.proofs.plus.Goals as goal

pub returns : goal.returns
unfolding plus
returns c = go (ltb (18446744073709551615 - c.args.n) c.args.more) refl
  where
    go : (b : Bool) → ltb (18446744073709551615 - c.args.n) c.args.more ≡ b → c.saturating_add.result ≡ cond b 18446744073709551615 (c.args.n + c.args.more)
    go true e = omega (arith, c.saturating_add.ensures, ltb-true _ _ e)
    go false e = omega (arith, c.saturating_add.ensures, ltb-false _ _ e)
