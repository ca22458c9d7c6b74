-- What a run of stores leaves as it was, and what it puts there.
use Rattle.std.specs.Prelude.{ℕ, zero, suc, ◌+◌, ◌-◌, ◌≤◌, ◌≡◌, refl, ◌⊎◌, List, [], ◌∷◌, ◌++◌, length, set, take, drop}
use Rattle.std.proofs.Common.{ap, sym, ◌∙◌, ⊎_elim, append_assoc, arith, drop_of_length-le, drop-set-lt, take_at, drop_at, take-add, length-take-le}
use Rattle.std.proofs.lemmas.List.Edits.{sets, sets-eq}
use Rattle.std.proofs.lemmas.List.{take-set-le}
use Rattle.lent.specs.Laws.{sets_append}

-- the first n of what is left are what is left of the first n
take-set : (n : ℕ) (d : List ℕ) (i x : ℕ) → take n (set d i x) ≡ set (take n d) i x
take-set zero d i x = refl
take-set (suc n) [] i x = refl
take-set (suc n) (y ∷ d) zero x = refl
take-set (suc n) (y ∷ d) (suc i) x = ap (λ (l : List ℕ). y ∷ l) (take-set n d i x)

pub take_sets : (n : ℕ) (v d : List ℕ) (at : ℕ) → take n (sets d at v) ≡ sets (take n d) at v
take_sets n [] d at = refl
take_sets n (x ∷ v) d at = take_sets n v (set d at x) (suc at) ∙ ap (λ (l : List ℕ). sets l (suc at) v) (take-set n d at x)

-- past the stores nothing changes
pub drop_sets : (p : ℕ) (v d : List ℕ) (at : ℕ) → at + length v ≤ p → drop p (sets d at v) ≡ drop p d
drop_sets p [] d at h = refl
drop_sets p (x ∷ v) d at h = drop_sets p v (set d at x) (suc at) (omega arith) ∙ drop-set-lt p d at x (omega arith)

-- nor does the part that ends before them, or begins after them
part-set : (w p : ℕ) (d : List ℕ) (i x : ℕ) → p + w ≤ i → take w (drop p (set d i x)) ≡ take w (drop p d)
part-set w zero d i x h = take-set-le w d i x (omega arith)
part-set w (suc p) [] i x h = refl
part-set w (suc p) (y ∷ d) zero x h = absurd (omega arith)
part-set w (suc p) (y ∷ d) (suc i) x h = part-set w p d i x (omega arith)

part-before : (w p : ℕ) (v d : List ℕ) (at : ℕ) → p + w ≤ at → take w (drop p (sets d at v)) ≡ take w (drop p d)
part-before w p [] d at h = refl
part-before w p (x ∷ v) d at h = part-before w p v (set d at x) (suc at) (omega arith) ∙ part-set w p d at x h

pub part_sets : (w p : ℕ) (v d : List ℕ) (at : ℕ) → (p + w ≤ at) ⊎ (at + length v ≤ p) → take w (drop p (sets d at v)) ≡ take w (drop p d)
part_sets w p v d at beside = ⊎_elim (part-before w p v d at) (λ h. ap (take w) (drop_sets p v d at h)) beside

-- and where they begin stands what was stored
pub part-there : (v d : List ℕ) (at n : ℕ) → length v ≡ n → at + n ≤ length d → take n (drop at (sets d at v)) ≡ v
part-there v d at n e h =
    let rest : List ℕ = drop (at + length v) d in
    ap (λ (l : List ℕ). take n (drop at l)) (sets-eq v d at (omega arith) ∙ append_assoc (take at d) v rest)
    ∙ ap (take n) (drop_at (take at d) (v ++ rest) at (length-take-le at d (omega arith)))
    ∙ take_at v rest n e

-- past the end there is nothing that could differ
pub drop_past : (n : ℕ) (s t : List ℕ) → length t ≡ length s → length s ≤ n → drop n t ≡ drop n s
drop_past n s t l h =
    let over : length t ≤ n = omega arith in
    drop_of_length-le t over ∙ sym (drop_of_length-le s h)

-- the first p bytes of something, and then those up to q
pub sets_take : (s bs : List ℕ) (at p q : ℕ) → p ≤ q → p ≤ length bs → sets (sets s at (take p bs)) (at + p) (take (q - p) (drop p bs)) ≡ sets s at (take q bs)
sets_take s bs at p q h l =
    let all : p + (q - p) ≡ q = omega arith in
    sym (sets_append s (take p bs) (take (q - p) (drop p bs)) at ∙ rw (length-take-le p bs l))
    ∙ ap (λ (vs : List ℕ). sets s at vs) (sym (take-add p (q - p) bs) ∙ ap (λ (n : ℕ). take n bs) all)

-- where two lists differ only in what a run covers, it leaves the same of both
pub sets_same : (s t vs : List ℕ) (at : ℕ) → at + length vs ≤ length s → length t ≡ length s → take at t ≡ take at s → drop (at + length vs) t ≡ drop (at + length vs) s → sets t at vs ≡ sets s at vs
sets_same s t vs at h l front rest =
    let fits : at + length vs ≤ length t = omega arith in
    sets-eq vs t at fits ∙ rw (front, rest) (sym (sets-eq vs s at h))
