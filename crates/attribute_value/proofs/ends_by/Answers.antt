use Prim.Native.Nat.{ℕ, ◌+◌, ◌*◌, ◌-◌, ◌/◌, ◌≤◌, ◌<◌}
use mathlib.Core.Path.{◌≡◌, refl, sym}
use mathlib.Core.Bool.{Bool, true, false}
use native.Mathlib.Omega.{arith}
use borrow.Author.Tests.{le-leb, lt-leb, leb-true, leb-false}
use lib.Dec.{leb}
use Rattle.refusal.specs.Laws.{div-le, div-lt}
use Rattle.attribute_value.proofs.ends_by.Goals as goal

-- the division says what the product would
by_product : (most at stride n : ℕ) → 0 < stride → at ≤ most → leb n ((most - at) / stride) ≡ leb (at + n * stride) most
by_product most at stride n some h = go (leb n ((most - at) / stride)) refl
  where
    go : (b : Bool) → leb n ((most - at) / stride) ≡ b → b ≡ leb (at + n * stride) most
    go true e = sym (le-leb (at + n * stride) most (omega (arith, div-le stride n (most - at) some (leb-true n ((most - at) / stride) e))))
    go false e = sym (lt-leb (at + n * stride) most (omega (arith, div-lt stride n (most - at) some (leb-false n ((most - at) / stride) e))))

pub returns-then-most-at : goal.returns-then-most-at
returns-then-most-at c = let a = c.args in sym (lt-leb (a.at + a.n * a.stride) a.most (omega arith))

pub returns : goal.returns
returns c = let a = c.args in by_product a.most a.at a.stride a.n c.requires (omega arith)
