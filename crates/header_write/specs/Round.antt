-- An accepted list, read and written back, from its block and its padding.
use Rattle.std.specs.Prelude.{Ok}
use Rattle.header.specs.Whole.{whole_of}
use Rattle.std.specs.Prelude.{ℕ, ◌+◌, ◌-◌, ◌≤◌, ◌≡◌, ◌⊎◌, List, ◌++◌, take, drop, replicate}
use Rattle.std.proofs.Common.{sym, ap, ◌∙◌, append_assoc, add-sub_of_le, take-add}
use native.Mathlib.Omega.{arith}
use Rattle.std.proofs.Math.ListN.{length, length-drop}
use borrow.Author.Tests.{le-leb}
use Rattle.std.proofs.Math.Seq.{length-take-le}
use Rattle.std.proofs.lemmas.List.{take-append-le, drop-append-le}
use Rattle.le.specs.Le.{Bytes}
use Rattle.le.specs.Laws.{bytes_take}
use Rattle.header.specs.Layout.{VersionMinor, StartOfFirstEvlr, NumberOfEvlrs, size, fields_of}
use Rattle.header.specs.Header.{number, header_of}
use Rattle.header.specs.Judged.{judged, header_in, padding_of}
use Rattle.header.specs.Laws.{accepted, within, standard-of}
use Rattle.header.specs.Answers.{header_whole, padding-whole, version_read, number-block, block-of}
use Rattle.header_write.specs.Bytes.{block}
use Rattle.header_write.specs.Wrote.{wrote_by, wrote_of}
use Rattle.header_write.specs.Back.{Paired, block_back, block_half}

-- bytes 235 to 246 replaced, in front of padding and before it is put there
cleared_then : (b p zeros : List ℕ) → 247 ≤ length b → (take 235 b ++ (zeros ++ drop 247 b)) ++ p ≡ take 235 (b ++ p) ++ (zeros ++ drop 247 (b ++ p))
cleared_then b p zeros h =
    let enough : 235 ≤ length b = omega arith in
    rw (append_assoc (take 235 b) (zeros ++ drop 247 b) p, append_assoc zeros (drop 247 b) p, take-append-le 235 b p, drop-append-le 247 b p)

module _ (s : List ℕ) (bytes : Bytes s) {n e : ℕ} (p : judged s ≡ Ok (whole_of n e)) where
  -- the numbers of the block are those of the list
  minor_same : number VersionMinor (take n s) ≡ number VersionMinor s
  minor_same = number-block s p VersionMinor (omega (arith, (within s p).0))

  module _ (four : number VersionMinor s ≡ 4) where
    large : n ≡ 375
    large = (accepted s p).block ∙ ap (λ (k : ℕ). size (fields_of k)) four

    start-same : number StartOfFirstEvlr (take n s) ≡ number StartOfFirstEvlr s
    start-same = number-block s p StartOfFirstEvlr (omega (arith, large))

    count_same : number NumberOfEvlrs (take n s) ≡ number NumberOfEvlrs s
    count_same = number-block s p NumberOfEvlrs (omega (arith, large))

  -- what is written back is the block and the padding
  read_back : {b : List ℕ} → block (header_of (take n s)) ≡ b → block (header_in s) ++ padding_of s ≡ b ++ take (e - n) (drop n s)
  read_back q = rw (header_whole s p, padding-whole s p, q)

  whole-list : take n s ++ take (e - n) (drop n s) ≡ take e s
  whole-list = sym (take-add n (e - n) s) ∙ ap (λ (k : ℕ). take k s) (add-sub_of_le (within s p).1)

  pub same_bytes : (number VersionMinor s ≡ 4 → Paired (number StartOfFirstEvlr s) (number NumberOfEvlrs s)) → block (header_in s) ++ padding_of s ≡ take e s
  same_bytes paired =
      read_back
      (block_back (take n s) (bytes_take n s bytes) (block-of s p)
      (λ four. let f = sym minor_same ∙ four in rw (start-same f, count_same f) (paired f)))
      ∙ whole-list

  pub half_zero : number VersionMinor s ≡ 4 → (number StartOfFirstEvlr s ≡ 0) ⊎ (number NumberOfEvlrs s ≡ 0) → block (header_in s) ++ padding_of s ≡ take 235 (take e s) ++ (replicate 12 0 ++ drop 247 (take e s))
  half_zero four half =
      let long : 247 ≤ length (take n s) =
      omega (arith, large four, length-take-le n s (omega (arith, (within s p).1, (within s p).2))) in
      read_back
      (block_half (take n s) (bytes_take n s bytes) (block-of s p) (minor_same ∙ four)
      (rw (start-same four, count_same four) half))
      ∙ cleared_then (take n s) (take (e - n) (drop n s)) (replicate 12 0) long
      ∙ ap (λ (l : List ℕ). take 235 l ++ (replicate 12 0 ++ drop 247 l)) whole-list

  -- the answer and the buffer, where there is room
  pub written_back : (d : List ℕ) {bs : List ℕ} → block (header_in s) ++ padding_of s ≡ bs → e ≤ length d → wrote_of (header_in s) (padding_of s) d ≡ (Ok e, bs ++ drop e d)
  unfolding wrote_of wrote_by
  written_back d q room =
      let w = within s p in
      let pad : length (take (e - n) (drop n s)) ≡ e - n = length-take-le (e - n) (drop n s) (simp length-drop (omega (arith, w.1, w.2))) in
      let wanted : n + length (padding_of s) ≡ e = rw (padding-whole s p, pad) (add-sub_of_le w.1) in
      let fits : n + length (padding_of s) ≤ length d = omega arith in
      rw (version_read s p, standard-of s p, le-leb _ _ fits, wanted, q)
