-- What the file's header reads after the last store, field by field, and what that store leaves as it was.
use Rattle.std.specs.Prelude.{Ok}
use Rattle.header.specs.Whole.{whole_of}
use Rattle.std.specs.Prelude.{ℕ, ◌^◌, ◌≤◌, ◌<◌, ◌≡◌, false, length, get_or, take, drop}
use Rattle.std.proofs.Math.Path.{refl, ap}
use Rattle.std.proofs.Common.{sym, ◌∙◌, ⊎_elim, arith, length-take-le}
use Rattle.std.proofs.Math.Logic.{inl, inr}
use mathlib.Core.List.{List}
use Rattle.std.proofs.Math.Seq.{sets, length-sets}
use Rattle.le.specs.Le.{num, bytes, Bytes}
use Rattle.le.specs.Laws.{num-lt}
use Rattle.fields.specs.Table.{part, joined}
use Rattle.store.specs.Parts.{take_sets, drop_sets, part_sets, part-there}
use Rattle.header.specs.declared.Header.{Header}
use Rattle.header.specs.Kinds.{Number, Numbers, nums}
use Rattle.header.specs.Layout.{FileSignature, VersionMajor, VersionMinor, HeaderSize, LegacyNumberOfPointRecords, LegacyNumberOfPointsByReturn, MaxX, place, kind, width}
use Rattle.header.specs.Header.{number, value, header_of}
use Rattle.header.specs.Judged.{judged, header_in}
use Rattle.header.specs.Laws.{within, same_answer}
use Rattle.header.specs.Answers.{header_whole}
use Rattle.header.specs.Minor.{points_read, no-large, no_evlr, points_legacy}
use Rattle.header.specs.Values.{length-numbers, value_same, value_again}
use Rattle.header.specs.Updated.{updated, Beside, header_updated, updated_alike, updated-points}
use Rattle.outline.specs.Outline.{outline_of, counting, outline_alike, no_evlrs, count_is}
use Rattle.offer.specs.declared.Sweep.{Sweep}
use Rattle.sectors.specs.Sectors.{by_return_of, with_header}

-- the header h with a sweep's counts and the new bounds
abbrev pub header_with : Sweep → List ℕ → Header → Header
header_with w bounds h = updated w.points (by_return_of w) bounds h

-- counts that the header has room for, and six bounds of 64 bits
pub record Fitting (w : Sweep) (bounds : List ℕ) : Type 0 where
  pub points : w.points < 2 ^ 32
  pub by-return : (j : ℕ) → get_or (by_return_of w) j 0 < 2 ^ 32
  pub six : length bounds ≡ 6
  pub patterns : (j : ℕ) → get_or bounds j 0 < 2 ^ 64

module _ (w : Sweep) (bounds : List ℕ) where
  -- the bytes of the three stores, and what the first two leave
  abbrev count : List ℕ
  count = bytes 4 w.points

  abbrev returns : List ℕ
  returns = joined (bytes 4) (by_return_of w)

  abbrev patterns : List ℕ
  patterns = joined (bytes 8) bounds

  abbrev counted : List ℕ → List ℕ
  counted s = sets s 107 count

  abbrev returned : List ℕ → List ℕ
  returned s = sets (counted s) 111 returns

  -- The file is as long as it was, and the first n bytes are those of a file of so many.
  pub length_header : (s : List ℕ) → length (with_header w bounds s) ≡ length s
  unfolding with_header
  length_header s = length-sets (returned s) 179 patterns ∙ length-sets (counted s) 111 returns ∙ length-sets s 107 count

  pub take_header : (n : ℕ) (s : List ℕ) → take n (with_header w bounds s) ≡ with_header w bounds (take n s)
  unfolding with_header
  take_header n s =
      take_sets n patterns (returned s) 179
      ∙ ap (λ (l : List ℕ). sets l 179 patterns) (take_sets n returns (counted s) 111 ∙ ap (λ (l : List ℕ). sets l 111 returns) (take_sets n count s 107))

  module _ (six : length bounds ≡ 6) where
    patterns_long : length patterns ≡ 48
    patterns_long = length-numbers 8 bounds ∙ rw six

    -- What lies beside the counts and the bounds is as it was.
    pub drop_header : (p : ℕ) (s : List ℕ) → 227 ≤ p → drop p (with_header w bounds s) ≡ drop p s
    unfolding with_header
    drop_header p s h =
        drop_sets p patterns (returned s) 179 (omega (arith, patterns_long)) ∙ drop_sets p returns (counted s) 111 (omega arith) ∙ drop_sets p count s 107 (omega arith)

    pub part_header : (n p : ℕ) (s : List ℕ) → Beside p n → part n p (with_header w bounds s) ≡ part n p s
    unfolding with_header
    part_header n p s beside =
        part_sets n p patterns (returned s) 179 (⊎_elim (λ h. inl (omega arith)) (⊎_elim (λ h. inl (omega arith)) (λ h. inr (omega (arith, patterns_long)))) beside)
        ∙ part_sets n p returns (counted s) 111 (⊎_elim (λ h. inl (omega arith)) (⊎_elim (λ h. inr (omega arith)) (λ h. inr (omega arith))) beside)
        ∙ part_sets n p count s 107 (⊎_elim (λ h. inl (omega arith)) (⊎_elim (λ h. inr (omega arith)) (λ h. inr (omega arith))) beside)

    pub num_header : (n p : ℕ) (s : List ℕ) → Beside p n → num n p (with_header w bounds s) ≡ num n p s
    num_header n p s beside = value_same (Number n) p (with_header w bounds s) s (part_header n p s beside)

    -- So the header is judged as it was.
    pub judged_header : (s : List ℕ) → judged (with_header w bounds s) ≡ judged s
    judged_header s =
        same_answer s (with_header w bounds s) (length_header s) (part_header (width FileSignature) (place FileSignature) s (inl (omega arith)))
        (num_header (width VersionMajor) (place VersionMajor) s (inl (omega arith)))
        (num_header (width VersionMinor) (place VersionMinor) s (inl (omega arith)))
        (num_header (width HeaderSize) (place HeaderSize) s (inl (omega arith)))

  module _ (fits : Fitting w bounds) (b : List ℕ) (long : 227 ≤ length b) where
    -- what stands in the places of the counts and the bounds
    points-there : number LegacyNumberOfPointRecords (with_header w bounds b) ≡ w.points
    unfolding with_header
    points-there =
        value_again (Number 4) w.points 107 (with_header w bounds b) fits.points
        (part_sets 4 107 patterns (returned b) 179 (inl (omega arith)) ∙ part_sets 4 107 returns (counted b) 111 (inl (omega arith)) ∙ part-there count b 107 4 refl (omega arith))

    by_return_there : value LegacyNumberOfPointsByReturn (with_header w bounds b) ≡ by_return_of w
    unfolding with_header
    by_return_there =
        value_again (Numbers 5 4) (by_return_of w) 111 (with_header w bounds b) (refl, fits.by-return)
        (part_sets 20 111 patterns (returned b) 179 (inl (omega arith)) ∙ part-there returns (counted b) 111 20 refl (omega (arith, length-sets b 107 count)))

    bounds-there : nums 8 6 (place MaxX) (with_header w bounds b) ≡ bounds
    unfolding with_header
    bounds-there =
        value_again (Numbers 6 8) bounds 179 (with_header w bounds b) (fits.six, fits.patterns)
        (part-there patterns (returned b) 179 48 (patterns_long fits.six) (omega (arith, length-sets (counted b) 111 returns, length-sets b 107 count)))

    block_header : header_of (with_header w bounds b) ≡ header_with w bounds (header_of b)
    block_header =
        header_updated (with_header w bounds b) b (λ f beside. value_same (kind f) (place f) (with_header w bounds b) b (part_header fits.six (width f) (place f) b beside))
        ∙ λ i. updated (points-there i) (by_return_there i) (bounds-there i) (header_of b)

  -- Where there are no large counts, the outline changes in its count alone.
  pub outline_with_lem : (h : Header) → h.has_large_file ≡ false → outline_of (header_with w bounds h) ≡ counting w.points (outline_of h)
  outline_with_lem h none =
      let g = header_with w bounds h in
      let a = updated_alike w.points (by_return_of w) bounds h in
      outline_alike g h a ∙ ap (λ (k : ℕ). counting k (outline_of h)) (points_legacy g (a.large ∙ none) ∙ updated-points w.points (by_return_of w) bounds h)

  -- "the header's count, the five counts by return .. and the bounds change": they read as given, and every other field as it did.
  module _ (fits : Fitting w bounds) (s : List ℕ) {n e : ℕ} (p : judged s ≡ Ok (whole_of n e)) where
    pub header_read : header_in (with_header w bounds s) ≡ header_with w bounds (header_in s)
    header_read =
        let in_block : 227 ≤ length (take n s) = omega (arith, length-take-le n s (omega (arith, (within s p).1, (within s p).2)), (within s p).0) in
        header_whole (with_header w bounds s) (judged_header fits.six s ∙ p)
        ∙ ap header_of (take_header n s)
        ∙ block_header fits (take n s) in_block
        ∙ ap (header_with w bounds) (sym (header_whole s p))

    pub outline_read : (header_in s).version.minor ≡ 2 → outline_of (header_in (with_header w bounds s)) ≡ counting w.points (outline_of (header_in s))
    outline_read two = ap outline_of header_read ∙ outline_with_lem (header_in s) (no-large s p (omega arith))

-- In version 1.2 the outline's count is the header's field, which has four bytes, and there are no later records.
module _ (s : List ℕ) {n e : ℕ} (p : judged s ≡ Ok (whole_of n e)) (two : (header_in s).version.minor ≡ 2) where
  pub count_12 : (outline_of (header_in s)).number_of_point_records ≡ number LegacyNumberOfPointRecords s
  count_12 = count_is (header_in s) ∙ points_legacy (header_in s) (no-large s p (omega arith)) ∙ points_read s p

  pub count_12_fits : Bytes s → (outline_of (header_in s)).number_of_point_records < 2 ^ 32
  count_12_fits bytes = rw count_12 (num-lt 4 s (place LegacyNumberOfPointRecords) bytes)

  pub none-after_12 : ((outline_of (header_in s)).start_of_later_records ≡ 0) × ((outline_of (header_in s)).number_of_later_records ≡ 0)
  none-after_12 = no_evlrs (header_in s) (λ three. omega arith) (no_evlr s p (omega arith))
