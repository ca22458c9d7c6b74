-- Laws of writes to the front of a lent slice and of a lent tail, cited wherever one record is written after another.
use Rattle.std.specs.Prelude.{Result, Ok, Err}
use Rattle.std.specs.Prelude.{◌≡◌, refl, Bool, true, false, cond, List, [], ◌∷◌, ◌++◌, ℕ, zero, suc, ◌+◌, ◌-◌, ◌*◌, ◌≤◌, ◌<◌, length, set, take, drop}
use Rattle.std.proofs.Common.{ap, sym, ◌∙◌, append_assoc, append-nil, arith, add-zero, zero-add, add-suc, suc-add, suc-mul, le-leb, length-append, length-take, length-drop, drop_of_length-le, take_all, drop-drop}
use Rattle.std.proofs.lemmas.Bool.{lt-leb}
use Rattle.std.proofs.lemmas.List.Edits.{sets, sets-eq}
use Rattle.std.proofs.Math.Seq.{length-sets}
use Rattle.refusal.specs.declared.Refusal.{Refusal}
use Rattle.refusal.specs.declared.Refusal.TheVariants.{NoRoom}
use Rattle.lent.specs.Front.{front_of}

-- a run of stores, then another
pub sets_append : (d bs rest : List ℕ) (at : ℕ) → sets d at (bs ++ rest) ≡ sets (sets d at bs) (at + length bs) rest
sets_append d [] rest at = rw add-zero
sets_append d (b ∷ bs) rest at = rw (add-suc, ← suc-add) (sets_append (set d at b) bs rest (suc at))

-- where there is room, and where there is none
pub front : (bs d : List ℕ) → length bs ≤ length d → front_of bs d ≡ (Ok (length bs), bs ++ drop (length bs) d)
front bs d h = simp (le-leb _ _ h)

pub no_front : (bs d : List ℕ) → length d < length bs → front_of bs d ≡ (Err (NoRoom (length bs)), d)
no_front bs d h = simp (lt-leb _ _ h)

-- what is left of a slice that is as long as what is put into it
pub placed : (d bs : List ℕ) {e : List ℕ} {r : Result ℕ Refusal} → length d ≡ length bs → (r, e) ≡ front_of bs d → e ≡ bs
placed d bs h p =
    let none : drop (length bs) d ≡ [] = drop_of_length-le d (omega arith) in
    ap (λ (w : Result ℕ Refusal × List ℕ). w.1) (p ∙ front bs d (omega arith)) ∙ rw (none, append-nil)

-- a refusal is no answer
pub no_answer : {x : Refusal} {n : ℕ} {d d' : List ℕ} → ◌≡◌ {A = Result ℕ Refusal × List ℕ} (Err x, d) (Ok n, d') → ⊥
no_answer {x} {n} p =
    let q : Err x ≡ Ok n = ap (λ (w : Result ℕ Refusal × List ℕ). w.0) p in
    let z : ◌≡◌ {A = ℕ} 0 1 = cc in
    omega arith

-- so where a count is answered a test that would refuse was passed
pub passed : (b : Bool) (w : Result ℕ Refusal × List ℕ) (x : Refusal) (d : List ℕ) {n : ℕ} {d' : List ℕ} → cond b w (Err x, d) ≡ (Ok n, d') → (b ≡ true) × (w ≡ (Ok n, d'))
passed true w x d p = (refl, p)
passed false w x d p = absurd (no_answer p)

-- and the count and what is left are those of the write
pub answered : {m n : ℕ} {e d' : List ℕ} → ◌≡◌ {A = Result ℕ Refusal × List ℕ} (Ok m, e) (Ok n, d') → (n ≡ m) × (d' ≡ e)
answered {m} {n} p =
    let q : Ok m ≡ Ok n = ap (λ (w : Result ℕ Refusal × List ℕ). w.0) p in
    (cc, sym (ap (λ (w : Result ℕ Refusal × List ℕ). w.1) p))

-- the whole, where its tail from `at` on was lent to a write of `bs` and is back
pub tail : (d bs ys : List ℕ) (at : ℕ) (r : Result ℕ Refusal) → at + length bs ≤ length d → (r, ys) ≡ front_of bs (take (length d - at) (drop at d)) → take at d ++ (ys ++ drop (length d - at) (drop at d)) ≡ sets d at bs
tail d bs ys at r h e =
    let lt : length (drop at d) ≤ length d - at = simp length-drop (omega arith) in
    let part : take (length d - at) (drop at d) ≡ drop at d = take_all _ _ lt in
    let room : length bs ≤ length (drop at d) = simp length-drop (omega arith) in
    let y : ys ≡ bs ++ drop (length bs) (drop at d) = ap (λ (p : Result ℕ Refusal × List ℕ). p.1) (e ∙ ap (front_of bs) part ∙ front bs _ room) in
    rw (sets-eq bs d at h, y, drop_of_length-le (drop at d) lt, append-nil, drop-drop, append_assoc)

-- a turn of a loop that writes one record after another, each into the rest: `w` is what the whole is to be, `rest` what is still to be written
pub turn : (d bs rest ys : List ℕ) (at : ℕ) (r : Result ℕ Refusal) {w : List ℕ} → at + length bs ≤ length d → (r, ys) ≡ front_of bs (take (length d - at) (drop at d)) → sets d at (bs ++ rest) ≡ w → (length (take at d ++ (ys ++ drop (length d - at) (drop at d))) ≡ length d) × (sets (take at d ++ (ys ++ drop (length d - at) (drop at d))) (at + length bs) rest ≡ w)
turn d bs rest ys at r h e w = rw (tail d bs ys at r h e) (length-sets d at bs, sym (sets_append d bs rest at) ∙ w)

-- the same of a piece of n bytes that is known to stand at the front of the tail
pub laid_turn : (d bs rest ys : List ℕ) (at n : ℕ) {w : List ℕ} → length bs ≡ n → at + n ≤ length d → ys ≡ bs ++ drop n (take (length d - at) (drop at d)) → sets d at (bs ++ rest) ≡ w → (length (take at d ++ (ys ++ drop (length d - at) (drop at d))) ≡ length d) × (sets (take at d ++ (ys ++ drop (length d - at) (drop at d))) (at + n) rest ≡ w)
laid_turn d bs rest ys at n size room laid all =
    let fits : length bs ≤ length (take (length d - at) (drop at d)) = simp (length-take, length-drop) (omega arith) in
    let put : (Ok (length bs), ys) ≡ front_of bs (take (length d - at) (drop at d)) = rw (laid, ← size) (sym (front bs _ fits)) in
    rw (← size) (turn d bs rest ys at (Ok (length bs)) (omega arith) put all)

-- such a loop counts its records down: those that are left are one and the others
pub less_one : (left m : ℕ) → 0 < left → left * m ≡ m + (left - 1) * m
less_one zero m h = absurd (omega arith)
less_one (suc k) m h =
    let e : suc k - 1 ≡ k = omega arith in
    rw (e, suc-mul) (omega arith)

-- what is written from the start on
pub whole : (d bs : List ℕ) (n : ℕ) → length bs ≡ n → n ≤ length d → sets d 0 bs ≡ bs ++ drop n d
whole d bs n e h = rw (← e) (sets-eq bs d 0 (omega arith) ∙ rw zero-add)

-- a piece written from the start on, and then another into the tail that is lent after it
pub then_tail : (d b p e ys : List ℕ) (n : ℕ) (r : Result ℕ Refusal) → length b ≡ n → n + length p ≤ length d → e ≡ sets d 0 b → (r, ys) ≡ front_of p (take (length e - n) (drop n e)) → take n e ++ (ys ++ drop (length e - n) (drop n e)) ≡ (b ++ p) ++ drop (n + length p) d
then_tail d b p e ys n r l h s q =
    let same : length e ≡ length d = ap length s ∙ length-sets d 0 b in
    let all : length (b ++ p) ≡ n + length p = length-append b p ∙ rw l in
    tail e p ys n r (omega arith) q
    ∙ rw (s, ← l, ← zero-add (length b), ← sets_append d b p 0, zero-add) (whole d (b ++ p) (length b + length p) (rw l all) (rw l h))

-- the whole, where a piece was copied to the place from `at` to `to`
pub copied : (d bs xs : List ℕ) (at to : ℕ) → to ≡ at + length bs → to ≤ length d → xs ≡ bs → take at d ++ (xs ++ drop (to - at) (drop at d)) ≡ sets d at bs
copied d bs xs at to e h p =
    let n : to - at ≡ length bs = omega arith in
    rw (sets-eq bs d at (omega arith), n, p, drop-drop, append_assoc)

-- a piece written from the start on, and then another that is copied to the place after it
pub then_copied : (d b p e xs : List ℕ) (n to : ℕ) → length b ≡ n → to ≡ n + length p → to ≤ length d → e ≡ sets d 0 b → xs ≡ p → take n e ++ (xs ++ drop (to - n) (drop n e)) ≡ (b ++ p) ++ drop to d
then_copied d b p e xs n to l t h s q =
    let same : length e ≡ length d = ap length s ∙ length-sets d 0 b in
    let all : length (b ++ p) ≡ to = length-append b p ∙ rw l (sym t) in
    copied e p xs n to t (omega arith) q
    ∙ rw (s, ← l, ← zero-add (length b), ← sets_append d b p 0) (whole d (b ++ p) to all h)

-- a piece and what is still to come fit, so the piece fits
pub room : (d bs rest : List ℕ) (at : ℕ) → at + length (bs ++ rest) ≤ length d → at + length bs ≤ length d
room d bs rest at h = omega (arith, length-append bs rest)

-- after a piece: what is still to come fits, and written from there it makes the whole
pub next : (d bs rest e : List ℕ) (at to : ℕ) → at + length (bs ++ rest) ≤ length d → to ≡ at + length bs → e ≡ sets d at bs → (to + length rest ≤ length e) × (sets e to rest ≡ sets d at (bs ++ rest))
next d bs rest e at to h p q =
    let l : length e ≡ length d = ap length q ∙ length-sets d at bs in
    (omega (arith, length-append bs rest), rw (q, p) (sym (sets_append d bs rest at)))
