-- Laws of little-endian numbers, each once over the width.
use Rattle.std.specs.Prelude.{ℕ, zero, suc, ◌+◌, ◌-◌, ◌*◌, ◌/◌, ◌%◌, ◌^◌, ◌<◌, ◌≤◌, ◌≡◌, refl, ◌⊎◌, List, [], ◌∷◌, ◌++◌, get_or, set, take, drop, length}
use Rattle.std.proofs.Common.{ap, sym, ◌∙◌, inl, inr, append-nil, zero-add, suc-add, mul_assoc, add_assoc, add-zero, one-add, arith, length-drop, drop_of_length-le, drop-cons, drop-drop, get_or-drop, get_or-take, take-add, take-take, drop-set-lt, take_at, drop_at}
use Rattle.std.proofs.Math.Nat.{sub-zero, zero-sub, suc-sub-suc, pow-succ', div-div-eq-div-mul}
use Rattle.std.proofs.Math.Seq.{take-nil}
use Rattle.std.proofs.lemmas.List.{take-set-le}
use Rattle.le.specs.Le.{le, num, bytes, bytes_from, Bytes}

-- the bytes of a number are those of its low part and of its high part
pub le-add : (m n : ℕ) (s : List ℕ) → le (m + n) s ≡ le m s + 256 ^ m * le n (drop m s)
unfolding le
le-add zero n s = rw zero-add (omega arith)
le-add (suc m) n s =
    rw (suc-add, le-add m n (drop 1 s), drop-drop m 1 s, one-add, pow-succ', mul_assoc) (omega arith)

-- a number of 2w bytes is made of two of w bytes
pub num-two : (w : ℕ) (s : List ℕ) (at : ℕ) → num (w + w) at s ≡ num w at s + 256 ^ w * num w (at + w) s
unfolding num
num-two w s at = le-add w w (drop at s) ∙ rw drop-drop

-- one byte
pub num-one : (s : List ℕ) (at : ℕ) → num 1 at s ≡ get_or s at 0
unfolding num le
num-one s at = simp (get_or-drop, add-zero)

-- and what it is alone
pub byte_num : (s : List ℕ) (at : ℕ) → at + 1 ≤ length s → num 1 at s ∷ [] ≡ take 1 (drop at s)
byte_num s at h = let in_s : at < length s = omega arith in rw (num-one, drop-cons s at 0)

pub num_byte : (s : List ℕ) (at x : ℕ) → take 1 (drop at s) ≡ x ∷ [] → num 1 at s ≡ x
unfolding num le
num_byte s at x e = omega (arith, sym (get_or-take 1 (drop at s) 0 0 (omega arith)) ∙ ap (λ (l : List ℕ). get_or l 0 0) e)

pub one_byte : (x : ℕ) → x < 256 → x ∷ [] ≡ bytes 1 x
one_byte x h = let e : x ≡ x % 256 = omega arith in ap (λ (n : ℕ). n ∷ []) e

-- what is left of a part
pub drop-take : (k n : ℕ) (s : List ℕ) → drop k (take n s) ≡ take (n - k) (drop k s)
drop-take zero n s = rw sub-zero
drop-take (suc k) zero s = rw zero-sub
drop-take (suc k) (suc n) [] = rw take-nil
drop-take (suc k) (suc n) (x ∷ s) = rw suc-sub-suc (drop-take k n s)

-- a part of bytes is bytes
pub bytes_take : (n : ℕ) (s : List ℕ) → Bytes s → Bytes (take n s)
bytes_take zero s b k = omega arith
bytes_take (suc n) [] b k = b k
bytes_take (suc n) (x ∷ s) b zero = b 0
bytes_take (suc n) (x ∷ s) b (suc k) = bytes_take n s (λ j. b (suc j)) k

pub bytes_drop : (n : ℕ) (s : List ℕ) → Bytes s → Bytes (drop n s)
bytes_drop n s b k = rw get_or-drop (b (n + k))

-- a number of w bytes is below 256 ^ w
pub le-lt : (w : ℕ) (s : List ℕ) → Bytes s → le w s < 256 ^ w
unfolding le
le-lt zero s b = omega arith
le-lt (suc w) s b =
    let h : le w (drop 1 s) < 256 ^ w = le-lt w (drop 1 s) (bytes_drop 1 s b) in
    rw pow-succ' (omega (arith, b 0))

pub num-lt : (w : ℕ) (s : List ℕ) (at : ℕ) → Bytes s → num w at s < 256 ^ w
unfolding num
num-lt w s at b = le-lt w (drop at s) (bytes_drop at s b)

-- past the end there are only zeros
le-none : (w : ℕ) → le w [] ≡ 0
unfolding le
le-none zero = refl
le-none (suc w) = omega (arith, le-none w)

pub num_past : (w : ℕ) (s : List ℕ) (at : ℕ) → length s ≤ at → num w at s ≡ 0
unfolding num
num_past w s at h = rw (drop_of_length-le s h) (le-none w)

-- the bytes of a number are its lowest byte and the bytes of the rest
shift : (k w x : ℕ) → bytes_from (suc k) w x ≡ bytes_from k w (x / 256)
shift k zero x = refl
shift k (suc w) x = rw (shift (suc k) w x, pow-succ', ← div-div-eq-div-mul x 256 (256 ^ k))

pub bytes-suc : (w x : ℕ) → bytes (suc w) x ≡ x % 256 ∷ bytes w (x / 256)
bytes-suc zero x = refl
bytes-suc (suc w) x = rw (shift 1 w x)

-- a number of w bytes has w bytes
pub length-bytes : (w x : ℕ) → length (bytes w x) ≡ w
length-bytes zero x = refl
length-bytes (suc w) x = ap length (bytes-suc w x) ∙ ap suc (length-bytes w (x / 256))

-- reading what was written gives the number back
pub le_bytes : (w x : ℕ) (s : List ℕ) → x < 256 ^ w → le w (bytes w x ++ s) ≡ x
unfolding le
le_bytes zero x s h = omega arith
le_bytes (suc w) x s h =
    let less : x / 256 < 256 ^ w = omega (arith, pow-succ' 256 w) in
    ap (λ (l : List ℕ). le (suc w) (l ++ s)) (bytes-suc w x) ∙ rw (le_bytes w (x / 256) s less) (omega arith)

-- writing what was read gives the bytes back
pub bytes_le : (w : ℕ) (s : List ℕ) → Bytes s → w ≤ length s → bytes w (le w s) ≡ take w s
unfolding le
bytes_le zero s b h = refl
bytes_le (suc w) [] b h = absurd (omega arith)
bytes_le (suc w) (x ∷ s) b h =
    let low : (x + 256 * le w s) % 256 ≡ x = omega (arith, b 0) in
    let high : (x + 256 * le w s) / 256 ≡ le w s = omega (arith, b 0) in
    rw (bytes-suc w (x + 256 * le w s), low, high) (ap (λ (t : List ℕ). x ∷ t) (bytes_le w s (λ k. b (suc k)) (omega arith)))

-- writing the number at a place gives the bytes there back
pub bytes-num : (w at : ℕ) (s : List ℕ) → Bytes s → at + w ≤ length s → bytes w (num w at s) ≡ take w (drop at s)
unfolding num
bytes-num w at s b h = bytes_le w (drop at s) (λ k. rw get_or-drop (b (at + k))) (rw length-drop (omega arith))

-- how many bytes numbers of these widths take, one after the other
abbrev pub total : List ℕ → ℕ
total [] = 0
total (w ∷ ws) = w + total ws

-- the bytes of those that s has from k past `at` on
abbrev pub span_from : List ℕ → ℕ → List ℕ → ℕ → List ℕ
span_from [] at s k = []
span_from (w ∷ ws) at s k = bytes w (num w (at + k) s) ++ span_from ws at s (k + w)

span-from : (ws : List ℕ) (at : ℕ) (s : List ℕ) (k : ℕ) → Bytes s → at + k + total ws ≤ length s → span_from ws at s k ≡ take (total ws) (drop (at + k) s)
span-from [] at s k b h = refl
span-from (w ∷ ws) at s k b h =
    rw (bytes-num w (at + k) s b (omega arith), span-from ws at s (k + w) b (omega arith), take-add, drop-drop, add_assoc)

-- numbers read one after the other, each put back, are the bytes that they were read from
pub span-num : (w : ℕ) (ws : List ℕ) (at : ℕ) (s : List ℕ) → Bytes s → at + (w + total ws) ≤ length s → bytes w (num w at s) ++ span_from ws at s w ≡ take (w + total ws) (drop at s)
span-num w ws at s b h = rw (bytes-num w at s b (omega arith), span-from ws at s w b (omega arith), take-add, drop-drop)

-- a number is what its own bytes say
le_same : (w : ℕ) (s t : List ℕ) → ((k : ℕ) → k < w → get_or s k 0 ≡ get_or t k 0) → le w s ≡ le w t
unfolding le
le_same zero s t h = refl
le_same (suc w) s t h =
    let rest : le w (drop 1 s) ≡ le w (drop 1 t) = le_same w (drop 1 s) (drop 1 t) (λ k l. rw (get_or-drop 1 s, get_or-drop 1 t) (h (1 + k) (omega arith))) in
    rw (h 0 (omega arith), rest)

-- so what stands past them does not matter
pub num-take : (w at : ℕ) (s : List ℕ) (n : ℕ) → at + w ≤ n → num w at (take n s) ≡ num w at s
unfolding num
num-take w at s n h =
    le_same w (drop at (take n s)) (drop at s) (λ k l. rw (get_or-drop at (take n s), get_or-drop at s) (get_or-take n s (at + k) 0 (omega arith)))

-- nor does a byte that is set beside them, before or past
pub num-set : (w at : ℕ) (s : List ℕ) (p x : ℕ) → (at + w ≤ p) ⊎ (p < at) → num w at (set s p x) ≡ num w at s
unfolding num
num-set w at s p x (inl h) = sym (num-take w at (set s p x) p h) ∙ ap (num w at) (take-set-le p s p x (omega arith)) ∙ num-take w at s p h
num-set w at s p x (inr h) = ap (le w) (drop-set-lt at s p x h)

-- and a number of a part stands in the whole
pub num-part : (w k n at : ℕ) (s : List ℕ) → k + w ≤ n → num w k (take n (drop at s)) ≡ num w (at + k) s
unfolding num
num-part w k n at s h = num-take w k (drop at s) n h ∙ rw drop-drop

-- the number at a place where its bytes stand
pub num-bytes : (w at : ℕ) (s : List ℕ) (x : ℕ) → x < 256 ^ w → take w (drop at s) ≡ bytes w x → num w at s ≡ x
unfolding num
num-bytes w at s x h e =
    le_same w (drop at s) (take w (drop at s)) (λ k l. sym (get_or-take w (drop at s) k 0 l))
    ∙ ap (le w) (e ∙ sym (append-nil (bytes w x))) ∙ le_bytes w x [] h

-- the two parts of what is taken
take_split : (w m : ℕ) (l xs ys : List ℕ) → length xs ≡ w → take (w + m) l ≡ xs ++ ys → (take w l ≡ xs) × (take m (drop w l) ≡ ys)
take_split w m l xs ys h e =
    let front : take w l ≡ xs = sym (take-take w (w + m) l (omega arith)) ∙ ap (take w) e ∙ take_at xs ys w h in
    let both : xs ++ take m (drop w l) ≡ xs ++ ys = rw (take-add, front) at e in
    (front, sym (drop_at xs (take m (drop w l)) w h) ∙ ap (drop w) both ∙ drop_at xs ys w h)

-- numbers one after the other, each as its width and its value: how many bytes they take
abbrev pub widths : List (ℕ × ℕ) → ℕ
widths [] = 0
widths ((w, x) ∷ vs) = w + widths vs

-- those bytes
abbrev pub their_bytes : List (ℕ × ℕ) → List ℕ
their_bytes [] = []
their_bytes ((w, x) ∷ vs) = bytes w x ++ their_bytes vs

-- each value fits its width
abbrev pub Fit : List (ℕ × ℕ) → Type 0
Fit [] = Unit
Fit ((w, x) ∷ vs) = (x < 256 ^ w) × Fit vs

-- each is the number that s has in its place, from k past `at` on
abbrev pub Say : List (ℕ × ℕ) → ℕ → List ℕ → ℕ → Type 0
Say [] at s k = Unit
Say ((w, x) ∷ vs) at s k = (num w (at + k) s ≡ x) × Say vs at s (k + w)

nums-from : (vs : List (ℕ × ℕ)) (at : ℕ) (s : List ℕ) (k : ℕ) → Fit vs → take (widths vs) (drop (at + k) s) ≡ their_bytes vs → Say vs at s k
nums-from [] at s k fit e = tt
nums-from ((w, x) ∷ vs) at s k (h, fit) e =
    let parts = take_split w (widths vs) (drop (at + k) s) (bytes w x) (their_bytes vs) (length-bytes w x) e in
    (num-bytes w (at + k) s x h parts.0, nums-from vs at s (k + w) fit (rw (drop-drop, add_assoc) at parts.1))

-- numbers whose bytes stand one after the other are read from them
pub nums-bytes : (w x : ℕ) (vs : List (ℕ × ℕ)) (at : ℕ) (s : List ℕ) → x < 256 ^ w → Fit vs → take (w + widths vs) (drop at s) ≡ bytes w x ++ their_bytes vs → (num w at s ≡ x) × Say vs at s w
nums-bytes w x vs at s h fit e =
    let parts = take_split w (widths vs) (drop at s) (bytes w x) (their_bytes vs) (length-bytes w x) e in
    (num-bytes w at s x h parts.0, nums-from vs at s w fit (rw drop-drop at parts.1))
