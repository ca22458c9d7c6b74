-- The version, and what else is asked for, that is read of an accepted header is that of the bytes; what its version lacks is not there.
use Rattle.std.specs.Prelude.{Some, None, Result, Ok, Err}
use Rattle.header.specs.Whole.{whole_of}
use Rattle.header.specs.declared.Whole.{Whole}
use Rattle.refusal.specs.declared.Refusal.{Refusal}
use Rattle.std.specs.Prelude.{ℕ, ◌≤◌, ◌<◌, ◌≡◌, refl, Bool, true, false, cond, ◌⊎◌, List, eqb, take}
use Rattle.std.proofs.Common.{sym, ◌∙◌, inl, inr, arith}
use Rattle.std.proofs.Math.Path.{ap}
use borrow.Author.Tests.{eqb-true, eq-eqb, ne_eqb}
use Rattle.std.proofs.Math.ListN.{length}
use Rattle.le.specs.Laws.{num_past}
use Rattle.header.specs.declared.Header.{Header}
use Rattle.header.specs.declared.Version.{Version}
use Rattle.header.specs.Layout.{GlobalEncoding, VersionMinor, LegacyNumberOfPointRecords, StartOfWaveformDataPacketRecord, fields_of, size}
use Rattle.header.specs.Header.{number, start_of, evlr_of, header_of, default_header, points_of}
use Rattle.header.specs.Judged.{version_of, judged, read_by, read_of, header_or, header_in}
use Rattle.header.specs.Laws.{accepted, within, short_13}
use Rattle.header.specs.Answers.{header_whole, number-block, block-of, version_read}

minor_of : (s : List ℕ) → (version_of s).minor ≡ number VersionMinor s
unfolding version_of
minor_of s = refl

pub major_read : (s : List ℕ) {n e : ℕ} → judged s ≡ Ok (whole_of n e) → (header_in s).version.major ≡ 1
unfolding version_of
major_read s p = ap (λ (v : Version). v.major) (version_read s p) ∙ (accepted s p).major

pub minor_read : (s : List ℕ) {n e : ℕ} → judged s ≡ Ok (whole_of n e) → (header_in s).version.minor ≡ number VersionMinor s
minor_read s p = ap (λ (v : Version). v.minor) (version_read s p) ∙ minor_of s

-- where a header is refused the default one stands, so one that reads as version 1.3 is there
pub three-whole : (s : List ℕ) → (header_in s).version.minor ≡ 3 → (n e : ℕ) × (judged s ≡ Ok (whole_of n e))
unfolding read_of read_by default_header
three-whole s three = go (judged s) refl
  where
    go : (a : Result Whole Refusal) → judged s ≡ a → (n e : ℕ) × (judged s ≡ Ok (whole_of n e))
    go (Ok whole) p = (whole.block, whole.end, p)
    go (Err r) p = let z : ◌≡◌ {A = ℕ} 2 3 = ap (λ (a : Result Whole Refusal). (header_or (read_by a s)).version.minor) (sym p) ∙ three in absurd (omega arith)

-- the count that is read is that of the bytes
pub points_read : (s : List ℕ) {n e : ℕ} → judged s ≡ Ok (whole_of n e) → (header_in s).number_of_point_records ≡ number LegacyNumberOfPointRecords s
unfolding header_of
points_read s p = ap (λ (h : Header). h.number_of_point_records) (header_whole s p) ∙ number-block s p LegacyNumberOfPointRecords (omega (arith, (within s p).0))

-- so are the global encoding and, in version 1.3, the waveform start
pub encoding_read : (s : List ℕ) {n e : ℕ} → judged s ≡ Ok (whole_of n e) → (header_in s).global_encoding ≡ number GlobalEncoding s
unfolding header_of
encoding_read s p = ap (λ (h : Header). h.global_encoding) (header_whole s p) ∙ number-block s p GlobalEncoding (omega (arith, (within s p).0))

pub waveform_read : (s : List ℕ) {n e : ℕ} → judged s ≡ Ok (whole_of n e) → number VersionMinor s ≡ 3 → (header_in s).start_of_waveform_data_packet_record ≡ start_of (number StartOfWaveformDataPacketRecord s)
unfolding header_of
waveform_read s {n} p three =
    let long : n ≡ 235 = (accepted s p).block ∙ ap (λ (m : ℕ). size (fields_of m)) three in
    ap (λ (h : Header). h.start_of_waveform_data_packet_record) (header_whole s p) ∙ ap start_of (number-block s p StartOfWaveformDataPacketRecord (omega arith))

-- of which none is 0
pub start-told : (n : ℕ) → (start_of n ≡ Some n) ⊎ ((start_of n ≡ None) × (n ≡ 0))
unfolding start_of
start-told n = go (eqb n 0) refl
  where
    go : (b : Bool) → eqb n 0 ≡ b → (cond b None (Some n) ≡ Some n) ⊎ ((cond b None (Some n) ≡ None) × (n ≡ 0))
    go true e = inr (refl, eqb-true n 0 e)
    go false e = inl refl

-- before version 1.4 there are no large counts, so the count is the legacy one, and there are no EVLRs
module _ (s : List ℕ) {n e : ℕ} (p : judged s ≡ Ok (whole_of n e)) (old : (header_in s).version.minor < 4) where
  pub no-large : (header_in s).has_large_file ≡ false
  unfolding header_of
  no-large =
      let other : number VersionMinor (take n s) ≡ 4 → ⊥ = λ four. omega (arith, minor_read s p, number-block s p VersionMinor (omega (arith, (within s p).0))) in
      ap (λ (h : Header). h.has_large_file) (header_whole s p) ∙ ne_eqb _ _ other

  pub no_evlr : (header_in s).evlr ≡ None
  unfolding header_of evlr_of
  no_evlr =
      let k = block-of s p in
      let same = number-block s p VersionMinor (omega (arith, (within s p).0)) in
      let short : length (take n s) ≤ 235 = omega (arith, k.fills, short_13 (number VersionMinor (take n s)) (omega (arith, minor_read s p))) in
      ap (λ (h : Header). h.evlr) (header_whole s p) ∙ rw (num_past 8 (take n s) 235 short)

pub points_legacy : (h : Header) → h.has_large_file ≡ false → points_of h ≡ h.number_of_point_records
unfolding points_of
points_legacy h none = go (eqb h.number_of_point_records 0) refl
  where
    go : (b : Bool) → eqb h.number_of_point_records 0 ≡ b → points_of h ≡ h.number_of_point_records
    go true e = rw (e, none) (sym (eqb-true _ _ e))
    go false e = rw e

-- and where it is zero and there are large counts it is the large one
pub points-large : (h : Header) → h.number_of_point_records ≡ 0 → h.has_large_file ≡ true → points_of h ≡ h.large_file.number_of_point_records
unfolding points_of
points-large h zero large = rw (eq-eqb _ 0 zero, large)

-- zeros read as missing
pub no_start : start_of 0 ≡ None
unfolding start_of
no_start = refl

pub no_pair : (n : ℕ) → evlr_of 0 n ≡ None
unfolding evlr_of
no_pair n = refl
