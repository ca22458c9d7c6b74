-- Laws of the destination, piece by piece, and of what each piece has.
use Rattle.std.specs.Prelude.{Result, ℕ, ◌+◌, ◌-◌, ◌≤◌, ◌≡◌, refl, take}
use Rattle.refusal.specs.declared.Refusal.{Refusal}
use Rattle.std.proofs.Math.Path.{sym, ap}
use Rattle.std.proofs.Common.{◌∙◌, arith, length-drop, take_at, drop_at, take-add, drop-drop, take_all, length-take-le}
use mathlib.Core.List.{List, ◌++◌, append_assoc}
use Rattle.std.proofs.Math.ListN.{length, drop, length-append}
use Rattle.std.proofs.lemmas.List.Edits.{sets-eq}
use Rattle.lent.specs.Laws.{copied}
use Rattle.header.specs.declared.Header.{Header}
use Rattle.header.specs.Layout.{fields_of, size}
use Rattle.header.specs.Judged.{padding_of}
use Rattle.header_write.specs.Bytes.{block}
use Rattle.header_write.specs.Wrote.{wrote_of}
use Rattle.header_write.specs.Reread.{length_is, with_room}
use Rattle.outline.specs.declared.Outline.{Outline}
use Rattle.extents.specs.Extents.{vlr_bytes}
use Rattle.migrate.specs.Migrate.{front_of}
use Rattle.migrate.specs.Steps.{Fronted}

-- the length of a list with another front
same_length : (front d : List ℕ) (n : ℕ) → length front ≡ n → n ≤ length d → length (front ++ drop n d) ≡ length d
same_length front d n size room = omega (arith, length-append front (drop n d), length-drop n d)

-- a header and its padding at the front, and then the VLRs into the rest
module _ (d b p v d' ys : List ℕ) (n : ℕ) (size : length (b ++ p) ≡ n) (room : n + length v ≤ length d) (laid : d' ≡ (b ++ p) ++ drop n d) (put : ys ≡ v) where
  pub front-laid : take n d' ++ (ys ++ drop (n + length v - n) (drop n d')) ≡ (b ++ (p ++ v)) ++ drop (n + length v) d
  front-laid =
      let long : length d' ≡ length d = ap length laid ∙ same_length (b ++ p) d n size (omega arith) in
      let begins : take n d' ≡ b ++ p = ap (take n) laid ∙ take_at (b ++ p) (drop n d) n size in
      let ends : drop n d' ≡ drop n d = ap (drop n) laid ∙ drop_at (b ++ p) (drop n d) n size in
      let past : drop (n + length v) d' ≡ drop (n + length v) d = sym (drop-drop (length v) n d') ∙ ap (drop (length v)) ends ∙ drop-drop (length v) n d in
      copied d' v ys n (n + length v) refl (omega arith) put ∙ sets-eq v d' n (omega arith)
      ∙ (λ i. (begins i ++ v) ++ past i)
      ∙ ap (λ (l : List ℕ). l ++ drop (n + length v) d) (append_assoc b p v)

-- a front over a destination in which the points stand, and what follows them after these
module _ (d front rest d' ys : List ℕ) (n to : ℕ) (size : length front ≡ n) (over : n ≤ to) (room : to + length rest ≤ length d) (laid : d' ≡ front ++ drop n d) (put : ys ≡ rest) where
  pub around_laid : take to d' ++ (ys ++ drop (to + length rest - to) (drop to d')) ≡ front ++ (take (to - n) (drop n d) ++ (rest ++ drop (to + length rest) d))
  around_laid =
      let long : length d' ≡ length d = ap length laid ∙ same_length front d n size (omega arith) in
      let ends : drop n d' ≡ drop n d = ap (drop n) laid ∙ drop_at front (drop n d) n size in
      let split : n + (to - n) ≡ to = omega arith in
      let begins : take to d' ≡ front ++ take (to - n) (drop n d) =
      ap (λ (k : ℕ). take k d') (sym split) ∙ take-add n (to - n) d' ∙ (λ i. (ap (take n) laid ∙ take_at front (drop n d) n size) i ++ take (to - n) (ends i)) in
      let more : n + (to - n + length rest) ≡ to + length rest = omega arith in
      let past : drop (to + length rest) d' ≡ drop (to + length rest) d =
      ap (λ (k : ℕ). drop k d') (sym more) ∙ sym (drop-drop (to - n + length rest) n d') ∙ ap (drop (to - n + length rest)) ends ∙ drop-drop (to - n + length rest) n d ∙ ap (λ (k : ℕ). drop k d) more in
      copied d' rest ys to (to + length rest) refl (omega arith) put ∙ sets-eq rest d' to (omega arith)
      ∙ (λ i. (begins i ++ rest) ++ past i)
      ∙ append_assoc (front ++ take (to - n) (drop n d)) rest (drop (to + length rest) d)
      ∙ append_assoc front (take (to - n) (drop n d)) (rest ++ drop (to + length rest) d)

-- the points, laid first into the place that was lent for them
module _ (d front points rest d' : List ℕ) (n to : ℕ) (over : n ≤ to) (room : to + length rest ≤ length d) (size : length points ≡ to - n) (laid : d' ≡ take n d ++ (points ++ drop (to - n) (drop n d))) where
  pub whole-laid : front ++ (take (to - n) (drop n d') ++ (rest ++ drop (to + length rest) d')) ≡ (front ++ (points ++ rest)) ++ drop (to + length rest) d
  whole-laid =
      let before : length (take n d) ≡ n = length-take-le n d (omega arith) in
      let ends : drop n d' ≡ points ++ drop (to - n) (drop n d) = ap (drop n) laid ∙ drop_at (take n d) _ n before in
      let there : take (to - n) (drop n d') ≡ points = ap (take (to - n)) ends ∙ take_at points _ (to - n) size in
      let more : n + (to - n + length rest) ≡ to + length rest = omega arith in
      let past : drop (to + length rest) d' ≡ drop (to + length rest) d =
      ap (λ (k : ℕ). drop k d') (sym more) ∙ sym (drop-drop (to - n + length rest) n d') ∙ ap (drop (to - n + length rest)) ends
      ∙ sym (drop-drop (length rest) (to - n) (points ++ drop (to - n) (drop n d))) ∙ ap (drop (length rest)) (drop_at points _ (to - n) size)
      ∙ drop-drop (length rest) (to - n) (drop n d) ∙ drop-drop (to - n + length rest) n d ∙ ap (λ (k : ℕ). drop k d) more in
      (λ i. front ++ (there i ++ (rest ++ past i)))
      ∙ ap (λ (l : List ℕ). front ++ l) (sym (append_assoc points rest (drop (to + length rest) d)))
      ∙ sym (append_assoc front (points ++ rest) (drop (to + length rest) d))

-- the front of the new file, as its two writers leave it
module _ (new : Header) (o : Outline) (s d : List ℕ) (f : Fronted new o s d) where
  abbrev standard : ℕ
  standard = size (fields_of new.version.minor)

  headed : length (block new ++ padding_of s) ≡ new.header_size
  headed = length-append (block new) (padding_of s) ∙ ap (λ (k : ℕ). k + length (padding_of s)) (length_is new (padding_of s) f.readable) ∙ sym f.padded

  vlrs_long : length (vlr_bytes o s) ≡ o.offset_to_point_data - o.header_size
  vlrs_long = length-take-le (o.offset_to_point_data - o.header_size) (drop o.header_size s) (simp length-drop (omega (arith, f.after, f.within)))

  pub front_long : length (front_of new o s) ≡ new.offset_to_point_data
  unfolding front_of
  front_long =
      ap length (sym (append_assoc (block new) (padding_of s) (vlr_bytes o s))) ∙ length-append (block new ++ padding_of s) (vlr_bytes o s)
      ∙ (λ i. headed i + vlrs_long i) ∙ sym f.moved

  pub front-written : (d' ys : List ℕ) (r : Result ℕ Refusal) → (r, d') ≡ wrote_of new (padding_of s) d → ys ≡ vlr_bytes o s → take new.header_size d' ++ (ys ++ drop (new.header_size + length (vlr_bytes o s) - new.header_size) (drop new.header_size d')) ≡ front_of new o s ++ drop new.offset_to_point_data d
  unfolding front_of
  front-written d' ys r wrote put =
      let fits : standard + length (padding_of s) ≤ length d = omega (arith, f.padded, f.moved, f.room) in
      let laid : d' ≡ (block new ++ padding_of s) ++ drop (standard + length (padding_of s)) d = ap (λ (w : Result ℕ Refusal × List ℕ). w.1) (wrote ∙ with_room new (padding_of s) f.readable d fits) in
      let laid' : d' ≡ (block new ++ padding_of s) ++ drop new.header_size d = laid ∙ ap (λ (k : ℕ). (block new ++ padding_of s) ++ drop k d) (sym f.padded) in
      let ends : new.header_size + length (vlr_bytes o s) ≡ new.offset_to_point_data = omega (arith, vlrs_long, f.moved) in
      front-laid d (block new) (padding_of s) (vlr_bytes o s) d' ys new.header_size headed (omega (arith, ends, f.room)) laid' put
      ∙ ap (λ (k : ℕ). (block new ++ (padding_of s ++ vlr_bytes o s)) ++ drop k d) ends

-- all but some bytes, as a slice to the end
pub to_the_end : (s : List ℕ) (k e : ℕ) → e ≡ k → take (length s - e) (drop e s) ≡ drop k s
to_the_end s k e is = rw is (take_all (length s - k) (drop k s) (simp length-drop (omega arith)))
