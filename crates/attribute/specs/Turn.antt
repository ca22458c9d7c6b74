-- The attributes of a file one after the other.
use Rattle.std.specs.Prelude.{Option, Some, None}
use Prim.Native.Nat.{ℕ, zero, suc, ◌+◌, ◌*◌, ◌-◌, ◌≤◌, ◌<◌}
use Rattle.std.specs.Prelude.{◌≡◌, refl, List, length, take, drop}
use Rattle.std.proofs.Math.Path.{ap}
use Rattle.std.proofs.Common.{subst, ◌∙◌}
use native.Mathlib.Omega.{arith}
use Rattle.descriptor.specs.Descriptor.{type_in}
use Rattle.attribute.specs.declared.Attribute.{Attribute}
use Rattle.attribute.specs.declared.Attributes.{Attributes}
use Rattle.attribute.specs.declared.Step.{Step}
use Rattle.attribute.specs.Attributes.{size_in, sizes_of, attribute_at, after, step_of, next_of}
use Rattle.attribute.specs.Laws.{none_left, one-there}
use Rattle.attribute.specs.Each.{nth}
use Rattle.attribute.specs.Named.{number, size, sizes-next, sizes-grow}

-- the place after a step, and the same place where there is none
abbrev pub place_after : Attributes → Option Step → Attributes
place_after c (Some step) = step.next
place_after c None = c

-- a place after k steps
abbrev pub walked : ℕ → List ℕ → Attributes → Attributes
walked zero s c = c
walked (suc k) s c = place_after (walked k s c) (next_of s (walked k s c))

-- an answer has this attribute, whose descriptor stands there
abbrev pub Tells : Option Step → ℕ → Attribute → Type 0
Tells answer d a = (c : Attributes) × (answer ≡ Some (step_of a d c))

-- n descriptors from `start` on, which stand in s, and values from `at` on, which end near it
module _ (s : List ℕ) (start n at stride points : ℕ) (stand : start + n * 192 ≤ length s) where
  abbrev pub d : List ℕ
  d = take (n * 192) (drop start s)

  -- the place before the k-th
  abbrev pub before : ℕ → Attributes
  before k = record { descriptor = start + k * 192; left = n - k; at = at + sizes_of k d; stride = stride; count = points }

  module _ (near : at + sizes_of n d ≤ 9223372036854775807) where
    ends : (k : ℕ) → k ≤ n → at + sizes_of k d ≤ 9223372036854775807
    ends k h = let e : k + (n - k) ≡ n = omega arith in omega (arith, subst (λ (m : ℕ). sizes_of k d ≤ sizes_of m d) e (sizes-grow (n - k) k d))

    pub step : (k : ℕ) → k < n → next_of s (before k) ≡ Some (step_of (attribute_at s (start + k * 192) (at + sizes_of k d) (before k)) (start + k * 192) (after s (before k)))
    step k h = one-there s (before k) (omega arith) (omega arith) (ends k (omega arith))

    moved : (k : ℕ) → k < n → after s (before k) ≡ before (suc k)
    unfolding after
    moved k h =
        let place : start + k * 192 + 192 ≡ start + suc k * 192 = omega arith in
        let fewer : n - k - 1 ≡ n - suc k = omega arith in
        let further : at + sizes_of k d + size_in (drop (start + k * 192) s) ≡ at + sizes_of (suc k) d = omega (arith, sizes-next k d, size s start n k h) in
        λ i. record { descriptor = place i; left = fewer i; at = further i; stride = stride; count = points }

    pub walks : (k : ℕ) → k ≤ n → walked k s (before 0) ≡ before k
    walks zero h = refl
    walks (suc k) h =
        ap (λ (c : Attributes). place_after c (next_of s c)) (walks k (omega arith)) ∙ ap (place_after (before k)) (step k (omega arith)) ∙ moved k (omega arith)

    -- the k-th step tells the k-th descriptor's
    pub tells : (k : ℕ) → k < n → Tells (next_of s (walked k s (before 0))) (start + k * 192) (record { data_type = type_in (nth k d); size = size_in (nth k d); at = at + sizes_of k d; stride = stride; count = points })
    unfolding attribute_at
    tells k h =
        let here : attribute_at s (start + k * 192) (at + sizes_of k d) (before k) ≡ record { data_type = type_in (nth k d); size = size_in (nth k d); at = at + sizes_of k d; stride = stride; count = points } =
        λ i. record { data_type = number s start n k h 1 2 (omega arith) i; size = size s start n k h i; at = at + sizes_of k d; stride = stride; count = points } in
        (after s (before k), ap (next_of s) (walks k (omega arith)) ∙ step k h ∙ ap (λ (a : Attribute). Some (step_of a (start + k * 192) (after s (before k)))) here)

    -- and after the last there is none
    pub stops : next_of s (walked n s (before 0)) ≡ None
    stops = ap (next_of s) (walks n (omega arith)) ∙ none_left s (before n) (omega arith)
