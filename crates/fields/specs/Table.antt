-- Fields that stand one after the other in a record, for any kind of field.
use Rattle.std.specs.Prelude.{ℕ, ◌+◌, ◌≡◌, List, [], ◌∷◌, ◌++◌, map, length, take, drop}
use Rattle.std.proofs.lemmas.List.Edits.{sets}

-- the w bytes of s from p on
abbrev pub part : ℕ → ℕ → List ℕ → List ℕ
part w p s = take w (drop p s)

module _ {F : Type 0} where
  -- the bytes of some fields together, from the bytes of each
  abbrev pub total : (F → ℕ) → List F → ℕ
  total width [] = 0
  total width (f ∷ fs) = width f + total width fs

  -- where each begins, if the first begins at p and each other where the one before it ends
  abbrev pub starts : (F → ℕ) → ℕ → List F → List ℕ
  starts width p [] = []
  starts width p (f ∷ fs) = p ∷ starts width (p + width f) fs

  -- their places are those: from p on, without gap or overlap
  abbrev pub Follow : (F → ℕ) → (F → ℕ) → ℕ → List F → Type 0
  Follow width place p fs = map place fs ≡ starts width p fs

  -- the bytes of each, one after the other
  abbrev pub joined : (F → List ℕ) → List F → List ℕ
  joined g [] = []
  joined g (f ∷ fs) = g f ++ joined g fs

-- what holds of each of some fields
infixr 5 ◌&◌
pub data All {F : Type 0} (P : F → Type 0) : List F → Type 0 where
  none : All P []
  ◌&◌ : {f : F} {fs : List F} → P f → All P fs → All P (f ∷ fs)

-- the pieces of some fields, each as wide as the table says, stored one after the other: each at its field's place, into what the one before left
pub data Stored {F : Type 0} (width place : F → ℕ) (g : F → List ℕ) : List ℕ → List F → List ℕ → Type 0 where
  done : {d : List ℕ} → Stored width place g d [] d
  store : {d e r : List ℕ} {f : F} {fs : List F} → e ≡ sets d (place f) (g f) → length (g f) ≡ width f → Stored width place g e fs r → Stored width place g d (f ∷ fs) r
