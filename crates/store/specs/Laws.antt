-- A law of runs of stores.
use Rattle.std.specs.Prelude.{ℕ, zero, suc, ◌-◌, ◌≡◌, refl, List, [], ◌∷◌, length, set, take}
use Rattle.std.proofs.Common.{arith, length-set}
use Rattle.std.proofs.lemmas.List.Edits.{sets}
use Rattle.std.proofs.Math.Seq.{set_out, take-nil}

-- what would lie past the end is left out
pub sets_clip : (v d : List ℕ) (at : ℕ) → sets d at (take (length d - at) v) ≡ sets d at v
sets_clip [] d at = rw take-nil
sets_clip (x ∷ v) d at = go (length d - at) refl (sets_clip v d (suc at)) (sets_clip v (set d at x) (suc at))
  where
    go : (k : ℕ) → length d - at ≡ k → sets d (suc at) (take (length d - suc at) v) ≡ sets d (suc at) v → sets (set d at x) (suc at) (take (length (set d at x) - suc at) v) ≡ sets (set d at x) (suc at) v → sets d at (take k (x ∷ v)) ≡ sets (set d at x) (suc at) v
    go zero e past within =
        let none : length d - suc at ≡ 0 = omega arith in
        rw (set_out d at x (omega arith)) (rw none at past)
    go (suc k) e past within =
        let rest : length (set d at x) - suc at ≡ k = simp length-set (omega arith) in
        rw rest at within
