-- "Prove the shared step once over the width of the field": the loop of every fill, over the width and what an entry holds.
use Prim.Native.Nat.{ℕ, zero, suc, ◌+◌, ◌*◌, ◌-◌, ◌≤◌, ◌<◌, ◌^◌}
use Rattle.std.specs.Prelude.{◌≡◌, Bool, List, ◌∷◌, ◌++◌, ℤ, length, take, drop, set}
use Rattle.std.proofs.Math.Path.{refl, ap, sym}
use Rattle.std.proofs.Common.{◌∙◌, add-zero, mul-le-mul_left, mul-le-mul_right, add-one, arith, drop-cons, to_z, of_z}
use Rattle.std.proofs.Math.Bool.{true, false}
use Rattle.std.proofs.Math.Nat.{suc-mul, zero-mul}
use borrow.Author.Tests.{leb-true, leb-false}
use Rattle.std.proofs.Math.Dec.{leb}
use Rattle.std.proofs.Math.ListN.{get_or, length-append, length-set}
use Rattle.std.proofs.lemmas.List.{set_at, get_or_at}
use Rattle.std.proofs.Math.Seq.{append_snoc}
use Rattle.std.specs.Int.{w32}
use mir.ValLaws.{of_z-to_z}
use Rattle.le.specs.Le.{num}
use Rattle.le.specs.Laws.{num-part}
use Rattle.column.specs.Column.{firsts, entry_of, filled_of, Lie}

module _ {A : Type 0} (f : ℕ → A) where
  pub length-firsts : (n : ℕ) → length (firsts f n) ≡ n
  unfolding firsts
  length-firsts zero = refl
  length-firsts (suc n) = simp length-append (omega (arith, length-firsts n))

  -- one value more at the front of d
  next-first : (i : ℕ) (d : List A) → i < length d → set (firsts f i ++ drop i d) i (f i) ≡ firsts f (suc i) ++ drop (suc i) d
  unfolding firsts
  next-first i d h =
      rw (drop-cons d i (f i)) (set_at (firsts f i) (get_or d i (f i)) (drop (suc i) d) (f i) i (length-firsts i) ∙ sym (append_snoc (firsts f i) (f i) (drop (suc i) d)))

  -- each is the rule's
  pub first-at : (n : ℕ) (rest : List A) (i : ℕ) (e : A) → i < n → get_or (firsts f n ++ rest) i e ≡ f i
  unfolding firsts
  first-at zero rest i e h = absurd (omega arith)
  first-at (suc n) rest i e h = rw append_snoc (go (leb (suc i) n) refl (first-at n (f n ∷ rest) i e))
    where
      go : (b : Bool) → leb (suc i) n ≡ b → (i < n → get_or (firsts f n ++ (f n ∷ rest)) i e ≡ f i) → get_or (firsts f n ++ (f n ∷ rest)) i e ≡ f i
      go true t before = before (leb-true (suc i) n t)
      go false t before =
          let same : i ≡ n = omega (arith, leb-false (suc i) n t) in
          rw same (get_or_at (firsts f n) (f n) rest e n (length-firsts n))

-- the number in a part of s that is as long as the number
in_part : (w at : ℕ) (s : List ℕ) → num w 0 (take (at + w - at) (drop at s)) ≡ num w at s
in_part w at s = num-part w 0 (at + w - at) at s (omega arith) ∙ rw add-zero

-- a number of four bytes that was read as a signed one is stored as such
pub stored : (n : ℕ) {z : ℤ} → n < 256 ^ 4 → z ≡ to_z w32 n → to_z w32 (of_z w32 z) ≡ to_z w32 n
stored n h is = ap (λ (y : ℤ). to_z w32 (of_z w32 y)) is ∙ ap (to_z w32) (of_z-to_z w32 n (record { fits = omega arith }))

-- before turn i of a loop that fills d from d₀, with n turns in all: the next number stands at `at`
pub record Filling {A : Type 0} (value : ℕ → A) (w first stride n : ℕ) (s : List ℕ) (d₀ d : List A) (at i : ℕ) : Type 0 where
  pub below : i ≤ n
  pub place : at ≡ first + i * stride
  pub kept : length d ≡ length d₀
  pub filled : d ≡ filled_of value w first stride i s d₀

-- what a turn needs of it
pub record Ahead (w stride : ℕ) (s : List ℕ) (at i : ℕ) : Type 0 where
  pub ends : at + w ≤ length s
  pub further : stride ≤ length s
  pub small : i * w ≤ length s

module _ {A : Type 0} {value : ℕ → A} {w first stride n : ℕ} {s : List ℕ} {d₀ : List A} where
  pub begun : Filling value w first stride n s d₀ d₀ first 0
  unfolding filled_of firsts
  begun = record { below = omega arith; place = omega (arith, zero-mul stride); kept = refl; filled = refl }

  module _ {d : List A} {at i : ℕ} (inv : Filling value w first stride n s d₀ d at i) where
    pub ahead : Lie w first stride n s → i < n → Ahead w stride s at i
    ahead lie h =
        let apart : w ≤ stride = lie.apart (omega arith) in
        let once : 1 * stride ≤ n * stride = mul-le-mul_right stride (omega arith) in
        let all : i * w ≤ n * w = mul-le-mul_right w inv.below in
        let wide : n * w ≤ n * stride = mul-le-mul_left n apart in
        record {
          ends = omega (arith, lie.each i h);
          further = omega (arith, lie.strides);
          small = omega (arith, lie.strides);
        }

    -- THE STEP: the number at its place stored, and one record further
    pub step-at : {v : A} → i < n → n ≤ length d₀ → v ≡ value (num w at s) → Filling value w first stride n s d₀ (set d i v) (at + stride) (i + 1)
    unfolding filled_of
    step-at {v} h room is =
        let entry : v ≡ entry_of value w first stride s i = is ∙ ap (λ (k : ℕ). value (num w k s)) inv.place in
        record {
          below = omega arith;
          place = omega (arith, suc-mul i stride);
          kept = length-set d i v ∙ inv.kept;
          filled = rw (inv.filled, entry, add-one) (next-first (entry_of value w first stride s) i d₀ (omega arith));
        }

    -- the number read from a part that is as long
    pub step : {v : A} → i < n → n ≤ length d₀ → v ≡ value (num w 0 (take (at + w - at) (drop at s))) → Filling value w first stride n s d₀ (set d i v) (at + stride) (i + 1)
    step h room is = step-at h room (is ∙ ap value (in_part w at s))

    pub done : n ≤ i → d ≡ filled_of value w first stride n s d₀
    done h = let e : i ≡ n = omega (arith, inv.below) in inv.filled ∙ ap (λ (k : ℕ). filled_of value w first stride k s d₀) e
