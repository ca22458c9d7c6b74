-- Laws of what is read and written of a field, each once over its kind.
use Rattle.std.specs.Prelude.{ℕ, zero, suc, ◌+◌, ◌*◌, ◌^◌, ◌≤◌, ◌<◌, ◌≡◌, refl, List, [], ◌∷◌, ◌++◌, length, get_or, take, drop, replicate}
use Rattle.std.proofs.Common.{sym, ap, ◌∙◌, append_assoc, zero-mul, add-zero, add_assoc, arith, length-append, length-drop, take-append-drop, drop-drop, drop_at, take_at, take-add, take-take, length-take-le}
use Rattle.le.specs.Le.{num, bytes, Bytes}
use Rattle.le.specs.Laws.{length-bytes, num-lt, num_past, bytes-num, num-bytes}
use Rattle.le.specs.Part.{num-part, num-first}
use Rattle.le.specs.Real.{f64_of, f64_bits_of, f64_kept}
use Rattle.fields.specs.Table.{part, joined}
use Rattle.header.specs.Kinds.{Kind, Number, Text, Real, Numbers, width_of, Value, nums, value_at, bytes_of, Fits}

-- numbers of w bytes, n of them, as they are read
length-nums : (w n at : ℕ) (b : List ℕ) → length (nums w n at b) ≡ n
unfolding nums
length-nums w zero at b = refl
length-nums w (suc n) at b = ap suc (length-nums w n (at + w) b)

pub nums_past : (w n at : ℕ) (b : List ℕ) → length b ≤ at → nums w n at b ≡ replicate n 0
unfolding nums
nums_past w zero at b h = refl
nums_past w (suc n) at b h = λ i. num_past w b at h i ∷ nums_past w n (at + w) b (omega arith) i

-- they are those of the bytes that they lie in
nums-part : (w n k m at : ℕ) (b : List ℕ) → k + n * w ≤ m → nums w n k (part m at b) ≡ nums w n (at + k) b
unfolding nums
nums-part w zero k m at b h = refl
nums-part w (suc n) k m at b h =
    let more : suc n * w ≡ w + n * w = omega arith in
    let others : nums w n (k + w) (part m at b) ≡ nums w n (at + k + w) b = nums-part w n (k + w) m at b (omega arith) ∙ rw add_assoc in
    λ i. num-part w k m at b (omega arith) i ∷ others i

nums-lt : (w n at : ℕ) (b : List ℕ) → Bytes b → (j : ℕ) → get_or (nums w n at b) j 0 < 256 ^ w
unfolding nums
nums-lt w zero at b bs j = omega (arith, num-lt w [] 0 (λ k. omega arith))
nums-lt w (suc n) at b bs zero = num-lt w b at bs
nums-lt w (suc n) at b bs (suc j) = nums-lt w n (at + w) b bs j

nums_back : (w n at : ℕ) (b : List ℕ) → Bytes b → at + n * w ≤ length b → joined (bytes w) (nums w n at b) ≡ part (n * w) at b
unfolding nums
nums_back w zero at b bs h = rw zero-mul
nums_back w (suc n) at b bs h =
    let more : suc n * w ≡ w + n * w = omega arith in
    rw (more, take-add w (n * w) (drop at b), drop-drop) (λ i. bytes-num w at b bs (omega arith) i ++ nums_back w n (at + w) b bs (omega arith) i)

nums_again : (w : ℕ) (xs : List ℕ) (at : ℕ) (b rest : List ℕ) → ((j : ℕ) → get_or xs j 0 < 256 ^ w) → drop at b ≡ joined (bytes w) xs ++ rest → nums w (length xs) at b ≡ xs
unfolding nums
nums_again w [] at b rest h e = refl
nums_again w (x ∷ xs) at b rest h e =
    let cut : drop at b ≡ bytes w x ++ (joined (bytes w) xs ++ rest) = e ∙ append_assoc (bytes w x) (joined (bytes w) xs) rest in
    let first : num w at b ≡ x = num-bytes w at b x (h 0) (ap (take w) cut ∙ take_at (bytes w x) _ w (length-bytes w x)) in
    let after : drop (at + w) b ≡ joined (bytes w) xs ++ rest = sym (drop-drop w at b) ∙ ap (drop w) cut ∙ drop_at (bytes w x) _ w (length-bytes w x) in
    λ i. first i ∷ nums_again w xs (at + w) b rest (λ j. h (suc j)) after i

pub length-numbers : (w : ℕ) (xs : List ℕ) → length (joined (bytes w) xs) ≡ length xs * w
length-numbers w [] = omega arith
length-numbers w (x ∷ xs) = rw (length-append, length-bytes, length-numbers w xs) (omega arith)

-- a value is that of its own bytes, so the same bytes hold the same value
value-part : (k : Kind) (at : ℕ) (b : List ℕ) → value_at k 0 (part (width_of k) at b) ≡ value_at k at b
value-part (Number w) at b = num-first w w at b (omega arith)
value-part (Text w) at b = take-take w w (drop at b) (omega arith)
value-part Real at b = ap f64_of (num-first 8 8 at b (omega arith))
value-part (Numbers n w) at b = nums-part w n 0 (n * w) at b (omega arith) ∙ rw add-zero

pub value_same : (k : Kind) (at : ℕ) (a b : List ℕ) → part (width_of k) at a ≡ part (width_of k) at b → value_at k at a ≡ value_at k at b
value_same k at a b e = sym (value-part k at a) ∙ ap (value_at k 0) e ∙ value-part k at b

-- a value that fits has its kind's bytes
pub value-wide : (k : Kind) (v : Value k) → Fits k v → length (bytes_of k v) ≡ width_of k
value-wide (Number w) v h = length-bytes w v
value-wide (Text w) v h = h
value-wide Real v h = length-bytes 8 (f64_bits_of v)
value-wide (Numbers n w) v h = length-numbers w v ∙ ap (λ (m : ℕ). m * w) h.0

module _ (b : List ℕ) (bs : Bytes b) where
  pub numbers_fit : (n w at : ℕ) → Fits (Numbers n w) (nums w n at b)
  numbers_fit n w at = (length-nums w n at b, nums-lt w n at b bs)

  -- a value that was read fits, and is written as the bytes that it was read from
  pub value-fits : (k : Kind) (at : ℕ) → at + width_of k ≤ length b → Fits k (value_at k at b)
  value-fits (Number w) at h = num-lt w b at bs
  value-fits (Text w) at h = length-take-le w (drop at b) (simp length-drop (omega arith))
  value-fits Real at h = record { pattern = num 8 at b; fits = num-lt 8 b at bs; reads = refl }
  value-fits (Numbers n w) at h = numbers_fit n w at

  pub value_back : (k : Kind) (at : ℕ) → at + width_of k ≤ length b → bytes_of k (value_at k at b) ≡ part (width_of k) at b
  value_back (Number w) at h = bytes-num w at b bs h
  value_back (Text w) at h = refl
  value_back Real at h = ap (bytes 8) (f64_kept (num 8 at b) (num-lt 8 b at bs)) ∙ bytes-num 8 at b bs h
  value_back (Numbers n w) at h = nums_back w n at b bs h

-- one that was written is read again
pub value_again : (k : Kind) (v : Value k) (at : ℕ) (b : List ℕ) → Fits k v → part (width_of k) at b ≡ bytes_of k v → value_at k at b ≡ v
value_again (Number w) v at b h e = num-bytes w at b v h e
value_again (Text w) v at b h e = e
value_again Real v at b h e =
    let same : f64_bits_of v ≡ h.pattern = ap f64_bits_of (sym h.reads) ∙ f64_kept h.pattern h.fits in
    ap f64_of (num-bytes 8 at b (f64_bits_of v) (rw same h.fits) e ∙ same) ∙ h.reads
value_again (Numbers n w) v at b h e =
    ap (λ (m : ℕ). nums w m at b) (sym h.0)
    ∙ nums_again w v at b (drop (n * w) (drop at b)) h.1 (sym (take-append-drop (n * w) (drop at b)) ∙ ap (λ (l : List ℕ). l ++ drop (n * w) (drop at b)) e)
