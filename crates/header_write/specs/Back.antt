-- What was read is written as the bytes that it was read from, field by field.
use Rattle.std.specs.Prelude.{ℕ, ◌+◌, ◌≤◌, ◌≡◌, Bool, ◌⊎◌, List, [], ◌∷◌, ◌++◌, take, drop, replicate}
use Rattle.std.proofs.Math.Path.{refl, sym, ap}
use Rattle.std.proofs.Common.{◌∙◌, inl, inr, ⊎_elim, arith}
use Rattle.std.proofs.Math.Bool.{true, false, cond}
use borrow.Author.Tests.{eqb-true, eqb-false, eq-eqb, ne_eqb}
use Rattle.std.proofs.Math.Dec.{eqb}
use Rattle.std.proofs.Math.ListN.{length, length-drop}
use Rattle.std.proofs.Math.Seq.{take_all}
use Rattle.le.specs.Le.{bytes, Bytes}
use Rattle.fields.specs.Table.{Follow, joined, All, none, ◌&◌}
use Rattle.fields.specs.Laws.{mapped, both, joined-append, joined-parts}
use Rattle.header.specs.declared.Evlr.{Evlr}
use Rattle.header.specs.declared.LargeFile.{LargeFile}
use Rattle.header.specs.Kinds.{bytes_of}
use Rattle.header.specs.Laws.{by_version}
use Rattle.header.specs.Answers.{Block}
use Rattle.header.specs.Layout.{Field, FileSignature, VersionMinor, StartOfWaveformDataPacketRecord, StartOfFirstEvlr, NumberOfEvlrs, NumberOfPointRecords, NumberOfPointsByReturn, place, kind, width, fields12, fields13, fields_of, size, large}
use Rattle.header.specs.Header.{part, number, value, lasf, start_of, evlr_of, nans_of, large_read, no_large, header_of}
use Rattle.header.specs.Values.{value_back}
use Rattle.header_write.specs.Bytes.{start_back, evlr_back, value_of, field_bytes, block}
use Rattle.header_write.specs.Table.{follows}

-- a waveform start comes back, and so does an EVLR pair unless just one of the two is zero
pub start_kept : (n : ℕ) → start_back (start_of n) ≡ n
unfolding start_of
start_kept n = go (eqb n 0) refl
  where
    go : (t : Bool) → eqb n 0 ≡ t → start_back (start_of n) ≡ n
    go true e = rw e (sym (eqb-true n 0 e))
    go false e = rw e

-- either both numbers are zero, or neither is
pub record Paired (a n : ℕ) : Type 0 where
  pub count_too : a ≡ 0 → n ≡ 0
  pub start_too : n ≡ 0 → a ≡ 0

-- a pair that is read is written as it stood, or, where one is zero, as two zeros
module _ (a n : ℕ) where
  abbrev pub Pair : ℕ → ℕ → Type 0
  Pair x y = evlr_back (evlr_of a n) ≡ record { start_of_first_evlr = x; number_of_evlrs = y }

  pub pair_cleared_lem : (a ≡ 0) ⊎ (n ≡ 0) → Pair 0 0
  unfolding evlr_of
  pair_cleared_lem half = go (eqb a 0) refl
    where
      go : (x : Bool) → eqb a 0 ≡ x → Pair 0 0
      go true e = rw e
      go false e = rw (e, eq-eqb n 0 (⊎_elim (λ z. absurd (eqb-false a 0 e z)) (λ z. z) half))

  pub pair_whole : (a ≡ 0 → ⊥) → (n ≡ 0 → ⊥) → Pair a n
  unfolding evlr_of
  pair_whole p q = rw (ne_eqb a 0 p, ne_eqb n 0 q)

  -- so it is one of the two
  pub pair_back : Pair 0 0 ⊎ Pair a n
  pair_back = go (eqb a 0) (eqb n 0) refl refl
    where
      go : (x y : Bool) → eqb a 0 ≡ x → eqb n 0 ≡ y → Pair 0 0 ⊎ Pair a n
      go true y e f = inl (pair_cleared_lem (inl (eqb-true a 0 e)))
      go false true e f = inl (pair_cleared_lem (inr (eqb-true n 0 f)))
      go false false e f = inr (pair_whole (eqb-false a 0 e) (eqb-false n 0 f))

  pair_kept : Paired a n → Pair a n
  pair_kept p = go (eqb a 0) refl
    where
      go : (x : Bool) → eqb a 0 ≡ x → Pair a n
      go true e =
          let z = eqb-true a 0 e in
          pair_cleared_lem (inl z) ∙ λ i. record { start_of_first_evlr = sym z i; number_of_evlrs = sym (p.count_too z) i }
      go false e = pair_whole (eqb-false a 0 e) (λ z. eqb-false a 0 e (p.start_too z))

module _ (b : List ℕ) where
  -- the header in b holds what b does
  abbrev pub Same : Field → Type 0
  Same f = value_of (header_of b) f ≡ value f b

  pub same_12 : part FileSignature b ≡ lasf → All Same fields12
  unfolding header_of nans_of
  same_12 signed =
      sym signed & refl & refl & refl & refl & refl & refl & refl & refl & refl & refl & refl & refl & refl & refl & refl & refl & refl & refl & refl
      & refl & refl & refl & refl & refl & refl & refl & refl & refl & none

  pub same_13 : All Same (StartOfWaveformDataPacketRecord ∷ [])
  unfolding header_of
  same_13 = start_kept (number StartOfWaveformDataPacketRecord b) & none

  pub same_counts : number VersionMinor b ≡ 4 → All Same (NumberOfPointRecords ∷ NumberOfPointsByReturn ∷ [])
  unfolding header_of
  same_counts four =
      let there : cond (eqb (number VersionMinor b) 4) (large_read b) no_large ≡ large_read b = rw (eq-eqb _ _ four) in
      ap (λ (l : LargeFile). l.number_of_point_records) there & ap (λ (l : LargeFile). l.number_of_points_by_return) there & none

  same_pair : Paired (number StartOfFirstEvlr b) (number NumberOfEvlrs b) → All Same (StartOfFirstEvlr ∷ NumberOfEvlrs ∷ [])
  unfolding header_of
  same_pair paired =
      let kept = pair_kept (number StartOfFirstEvlr b) (number NumberOfEvlrs b) paired in
      ap (λ (x : Evlr). x.start_of_first_evlr) kept & ap (λ (x : Evlr). x.number_of_evlrs) kept & none

  module _ (bs : Bytes b) where
    -- so fields that follow each other from p on are written as b has them there
    back : (fs : List Field) (p : ℕ) → Follow width place p fs → p + size fs ≤ length b → All Same fs → joined (field_bytes (header_of b)) fs ≡ take (size fs) (drop p b)
    back fs p follow within same =
        joined-parts width (field_bytes (header_of b)) place b fs p follow within
        (mapped (λ f e h. ap (bytes_of (kind f)) e ∙ value_back b bs (kind f) (place f) h) fs same)

-- Of the block of a version, all of its fields come back, so the block does.
module _ (b : List ℕ) (bs : Bytes b) (k : Block b) where
  pub block_back : (number VersionMinor b ≡ 4 → Paired (number StartOfFirstEvlr b) (number NumberOfEvlrs b)) → block (header_of b) ≡ b
  unfolding block header_of
  block_back paired =
      let m = number VersionMinor b in
      let old = same_12 b k.signature in
      let four : 4 ≤ m → m ≡ 4 = λ h. omega (arith, k.minor) in
      let same = by_version (All (Same b)) m (λ h. old) (λ h. both old (same_13 b)) (λ h. both (both old (same_13 b)) (both (same_pair b (paired (four h))) (same_counts b (four h)))) in
      back b bs (fields_of m) 0 (follows m) (omega (arith, k.fills)) same ∙ take_all (size (fields_of m)) b (omega (arith, k.fills))

  -- A pair of which one is zero comes back as two zeros.
  pub block_half : number VersionMinor b ≡ 4 → (number StartOfFirstEvlr b ≡ 0) ⊎ (number NumberOfEvlrs b ≡ 0) → block (header_of b) ≡ take 235 b ++ (replicate 12 0 ++ drop 247 b)
  unfolding block header_of
  block_half four half =
      let l : length b ≡ 375 = k.fills ∙ rw four in
      let first = back b bs fields13 0 refl (omega arith) (both (same_12 b k.signature) (same_13 b)) in
      let last = back b bs (NumberOfPointRecords ∷ NumberOfPointsByReturn ∷ []) 247 refl (omega arith) (same_counts b four) in
      let rest : length (drop 247 b) ≤ 128 = simp length-drop (omega arith) in
      let none_written = pair_cleared_lem (number StartOfFirstEvlr b) (number NumberOfEvlrs b) half in
      ap (λ (m : ℕ). joined (field_bytes (header_of b)) (fields_of m)) four
      ∙ joined-append (field_bytes (header_of b)) fields13 large
      ∙ (λ i. first i ++ (bytes 8 (none_written i).start_of_first_evlr ++ (bytes 4 (none_written i).number_of_evlrs ++ (last ∙ take_all 128 (drop 247 b) rest) i)))
