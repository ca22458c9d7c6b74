-- Laws of every table: pieces joined and cut again, bytes cut and joined again, and pieces stored each at its place.
use Rattle.std.specs.Prelude.{ℕ, ◌+◌, ◌≤◌, ◌≡◌, refl, List, [], ◌∷◌, ◌++◌, length, drop}
use Rattle.std.proofs.Common.{sym, ap, ◌∙◌, append_assoc, arith, length-append, take-add, drop-drop, take_at, drop_at}
use Rattle.std.proofs.lemmas.List.Edits.{sets}
use Rattle.std.proofs.Math.Seq.{length-sets}
use Rattle.lent.specs.Laws.{sets_append}
use Rattle.fields.specs.Table.{part, total, Follow, joined, All, none, ◌&◌, Stored, done, store}

module _ {F : Type 0} where
  pub every : {P : F → Type 0} → ((f : F) → P f) → (fs : List F) → All P fs
  every p [] = none
  every p (f ∷ fs) = p f & every p fs

  pub mapped : {P Q : F → Type 0} → ((f : F) → P f → Q f) → (fs : List F) → All P fs → All Q fs
  mapped g [] none = none
  mapped g (f ∷ fs) (p & ps) = g f p & mapped g fs ps

  pub zipped : {P Q R : F → Type 0} → ((f : F) → P f → Q f → R f) → (fs : List F) → All P fs → All Q fs → All R fs
  zipped g [] none none = none
  zipped g (f ∷ fs) (p & ps) (q & qs) = g f p q & zipped g fs ps qs

  pub both : {P : F → Type 0} {xs ys : List F} → All P xs → All P ys → All P (xs ++ ys)
  both none q = q
  both (x & p) q = x & both p q

  pub split : {P : F → Type 0} (xs ys : List F) → All P (xs ++ ys) → All P xs × All P ys
  split [] ys a = (none, a)
  split (x ∷ xs) ys (p & a) = let parts = split xs ys a in (p & parts.0, parts.1)

  pub joined-append : (g : F → List ℕ) (xs ys : List F) → joined g (xs ++ ys) ≡ joined g xs ++ joined g ys
  joined-append g [] ys = refl
  joined-append g (x ∷ xs) ys = rw (append_assoc, joined-append g xs ys)

-- fields that follow each other lie where they all do
pub within : {F : Type 0} (width place : F → ℕ) (fs : List F) (p n : ℕ) → Follow width place p fs → p + total width fs ≤ n → All (λ (f : F). place f + width f ≤ n) fs
within width place [] p n e h = none
within width place (f ∷ fs) p n e h =
    let here : place f ≡ p = cc in
    let rest : Follow width place (p + width f) fs = cc in
    let first : place f + width f ≤ n = omega arith in
    first & within width place fs (p + width f) n rest (omega arith)

module _ {F : Type 0} (width : F → ℕ) (g : F → List ℕ) where
  -- pieces that are as wide as the table says
  abbrev pub Wide : List F → Type 0
  Wide = All (λ (f : F). length (g f) ≡ width f)

  pub length-joined : (fs : List F) → Wide fs → length (joined g fs) ≡ total width fs
  length-joined [] none = refl
  length-joined (f ∷ fs) (w & ws) = length-append (g f) (joined g fs) ∙ λ i. w i + length-joined fs ws i

  module _ (place : F → ℕ) where
    -- bytes cut into fields, joined again: where each piece is what s has in its field's place, together they are what s has there
    pub joined-parts : (s : List ℕ) (fs : List F) (p : ℕ) → Follow width place p fs → p + total width fs ≤ length s → All (λ (f : F). place f + width f ≤ length s → g f ≡ part (width f) (place f) s) fs → joined g fs ≡ part (total width fs) p s
    joined-parts s [] p e h none = refl
    joined-parts s (f ∷ fs) p e h (q & qs) =
        let here : place f ≡ p = cc in
        let rest : Follow width place (p + width f) fs = cc in
        (λ i. q (omega arith) i ++ joined-parts s fs (p + width f) rest (omega arith) qs i) ∙ rw (here, take-add (width f) (total width fs) (drop p s), drop-drop)

    -- pieces joined, cut again: each stands in its field's place
    pub parts-joined : (s : List ℕ) (fs : List F) (p : ℕ) (rest : List ℕ) → Follow width place p fs → Wide fs → drop p s ≡ joined g fs ++ rest → All (λ (f : F). part (width f) (place f) s ≡ g f) fs
    parts-joined s [] p rest e none q = none
    parts-joined s (f ∷ fs) p rest e (w & ws) q =
        let here : place f ≡ p = cc in
        let next : Follow width place (p + width f) fs = cc in
        let cut : drop p s ≡ g f ++ (joined g fs ++ rest) = q ∙ append_assoc (g f) (joined g fs) rest in
        let after : drop (p + width f) s ≡ joined g fs ++ rest = sym (drop-drop (width f) p s) ∙ ap (drop (width f)) cut ∙ drop_at (g f) (joined g fs ++ rest) (width f) w in
        let first : part (width f) (place f) s ≡ g f = rw (here, cut) (take_at (g f) (joined g fs ++ rest) (width f) w) in
        first & parts-joined s fs (p + width f) rest next ws after

    -- pieces stored each at its field's place are the pieces joined, stored where the first begins
    pub stored-joined : {d r : List ℕ} (fs : List F) (p : ℕ) → Follow width place p fs → Stored width place g d fs r → r ≡ sets d p (joined g fs)
    stored-joined [] p e done = refl
    stored-joined {d} (f ∷ fs) p e (store q w st) =
        let here : place f ≡ p = cc in
        let rest : Follow width place (p + width f) fs = cc in
        stored-joined fs (p + width f) rest st ∙ rw (q, here) (sym (sets_append d (g f) (joined g fs) p ∙ rw w))

    pub stored-wide : {d r : List ℕ} {fs : List F} → Stored width place g d fs r → Wide fs
    stored-wide done = none
    stored-wide (store q w st) = w & stored-wide st

    pub stored-length : {d r : List ℕ} {fs : List F} → Stored width place g d fs r → length r ≡ length d
    stored-length done = refl
    stored-length (store q w st) = stored-length st ∙ ap length q ∙ simp length-sets

    -- some fields, and then others
    pub then : {d e r : List ℕ} {xs ys : List F} → Stored width place g d xs e → Stored width place g e ys r → Stored width place g d (xs ++ ys) r
    then done q = q
    then (store p w st) q = store p w (then st q)
