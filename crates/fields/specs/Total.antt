-- The bytes of some fields and then others; and storing keeps the length.
use Rattle.std.specs.Prelude.{ℕ, ◌+◌, ◌≡◌, refl, List, [], ◌∷◌, ◌++◌, length}
use Rattle.std.proofs.Common.{ap, ◌∙◌, arith}
use Rattle.std.proofs.Math.Seq.{length-sets}
use Rattle.fields.specs.Table.{total, Stored, done, store}

module _ {F : Type 0} (width : F → ℕ) where
  pub total-append : (xs ys : List F) → total width (xs ++ ys) ≡ total width xs + total width ys
  total-append [] ys = omega arith
  total-append (x ∷ xs) ys = rw (total-append xs ys) (omega arith)

  module _ (place : F → ℕ) where
    pub stored-length : (g : F → List ℕ) {d r : List ℕ} {fs : List F} → Stored width place g d fs r → length r ≡ length d
    stored-length g done = refl
    stored-length g {d} (store {f = f} q w st) = stored-length g st ∙ ap length q ∙ length-sets d (place f) (g f)
