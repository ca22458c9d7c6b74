-- Laws of keys that rise, and of the place of a key among some.
use Prim.Native.Nat.{ℕ, zero, suc, ◌+◌, ◌-◌, ◌≤◌, ◌<◌}
use Rattle.std.specs.Prelude.{◌≡◌, Bool, cond, eqb}
use Rattle.std.proofs.Math.Path.{refl}
use Rattle.std.proofs.Math.Bool.{true, false}
use Rattle.std.proofs.Common.{arith}
use borrow.Author.Tests.{leb-true, leb-false, eqb-true, eqb-false}
use Rattle.std.proofs.Math.Dec.{leb}
use Rattle.directory.specs.Directory.{rising_at, place_from, place_of}
use Rattle.directory.specs.Laws.{rising_says}

-- keys each of which is above the one before it are in order, so that no two are the same
module _ (key : ℕ → ℕ) (n : ℕ) (rising : (k : ℕ) → k < n → rising_at key k ≡ true) where
  pub ordered : (j k : ℕ) → j < k → k < n → key j < key k
  ordered j zero h l = absurd (omega arith)
  ordered j (suc k) h l = go (leb (suc j) k) refl (λ g. ordered j k g (omega arith))
    where
      step : key k < key (suc k)
      step = let less : suc k - 1 ≡ k = omega arith in rw less at (rising_says key (suc k) (omega arith) (rising (suc k) l))

      go : (b : Bool) → leb (suc j) k ≡ b → (j < k → key j < key k) → key j < key (suc k)
      go true t before = omega (arith, before (leb-true (suc j) k t), step)
      go false t before = let same : j ≡ k = omega (arith, leb-false (suc j) k t) in rw same step

  pub only : (j k : ℕ) → j < n → k < n → key j ≡ key k → j ≡ k
  only j k h l e = go (leb (suc j) k) (leb (suc k) j) refl refl
    where
      go : (a b : Bool) → leb (suc j) k ≡ a → leb (suc k) j ≡ b → j ≡ k
      go true b p q = absurd (omega (arith, ordered j k (leb-true (suc j) k p) l))
      go false true p q = absurd (omega (arith, ordered k j (leb-true (suc k) j q) h))
      go false false p q = omega (arith, leb-false (suc j) k p, leb-false (suc k) j q)

-- a search of m places from i on ends at one that has x, or behind them all, and none of them has it
module _ (f : ℕ → ℕ) (x : ℕ) where
  pub data Sought (i m : ℕ) : ℕ → Type 0 where
    there : {p : ℕ} → i ≤ p → p < i + m → f p ≡ x → Sought i m p
    nowhere : {p : ℕ} → p ≡ i + m → ((j : ℕ) → i ≤ j → j < i + m → f j ≡ x → ⊥) → Sought i m p

  sought : (i m : ℕ) → Sought i m (place_from f x i m)
  unfolding place_from
  sought i zero = nowhere {p = i} (omega arith) (λ j h l. absurd (omega arith))
  sought i (suc m) = go (eqb (f i) x) refl (sought (suc i) m)
    where
      further : {p : ℕ} → (f i ≡ x → ⊥) → Sought (suc i) m p → Sought i (suc m) p
      further {p} other (there h l e) = there {p = p} (omega arith) (omega arith) e
      further {p} other (nowhere e none) = nowhere {p = p} (omega arith) (λ j h l is. at j h l is (leb (suc i) j) refl)
        where
          at : (j : ℕ) → i ≤ j → j < i + suc m → f j ≡ x → (b : Bool) → leb (suc i) j ≡ b → ⊥
          at j h l is true t = none j (leb-true (suc i) j t) (omega arith) is
          at j h l is false t = let same : i ≡ j = omega (arith, leb-false (suc i) j t) in other (rw same is)

      go : (b : Bool) → eqb (f i) x ≡ b → Sought (suc i) m (place_from f x (suc i) m) → Sought i (suc m) (cond b i (place_from f x (suc i) m))
      go true t rest = there {p = i} (omega arith) (omega arith) (eqb-true (f i) x t)
      go false t rest = further (eqb-false (f i) x t) rest

  pub placed : (n : ℕ) → Sought 0 n (place_of f x n)
  unfolding place_of
  placed n = sought 0 n
