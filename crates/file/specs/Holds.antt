-- Rules 1 to 8 of document 01, with document 02's No. 11, as one conjunction, in ℕ and without an order; that the list of rules says the same.
use Rattle.std.specs.Prelude.{Result, Ok, Err}
use Rattle.header.specs.Whole.{whole_of}
use Rattle.header.specs.declared.Whole.{Whole}
use Rattle.refusal.specs.declared.Refusal.{Refusal}
use Rattle.std.specs.Prelude.{ℕ, ◌+◌, ◌≤◌, ◌<◌, ◌≡◌, Bool, cond, ◌||◌, T, length, drop}
use Rattle.std.proofs.Math.Path.{refl}
use Rattle.std.proofs.Common.{sym, subst, pos_of_ne-zero, arith}
use Rattle.std.proofs.Math.Bool.{true, false}
use mathlib.Core.List.{List, [], ◌∷◌, ◌++◌}
use borrow.Author.Tests.{lt-ltb, le-leb, ltb-true, leb-true, eqb-true, eqb-false}
use Rattle.std.proofs.Math.Dec.{eqb, leb}
use Rattle.header.specs.Layout.{FileSignature, VersionMajor, VersionMinor, HeaderSize, fields_of, size}
use Rattle.header.specs.Header.{part, number, lasf}
use Rattle.header.specs.Judged.{padded_to, judged, header_in}
use Rattle.header.specs.Laws.{accepted, whole, within}
use Rattle.header.specs.Minor.{minor_read}
use Rattle.outline.specs.declared.Outline.{Outline}
use Rattle.outline.specs.Outline.{outline_of}
use Rattle.rules.specs.Rules.{Rule, rule, highest_format, format_bytes, header_rules, record_rules}
use Rattle.extents.specs.Extents.{points_end, start_refusal, vlr_bytes, vlr_rules, point_rule, later_rules, part_rules, outline_rules}
use Rattle.file.specs.Rules.{readable, standard_size, rules_of}
use Rattle.rules.specs.First.{All, all_append, all_split}
use Rattle.rules.specs.Records.{Run, records_hold, records_all}

-- the standard size of the version that the bytes name
abbrev pub standard_in : List ℕ → ℕ
standard_in s = size (fields_of (number VersionMinor s))

-- rules 2 to 8, for a header of standard size n and version 1.minor
pub record PartsHold (n minor allowance : ℕ) (o : Outline) (s : List ℕ) : Type 0 where
  -- 2: header-size field not below standard
  pub header-size : n ≤ o.header_size
  -- 3: format 0 to 10, and one of the version's
  pub format : o.point_data_record_format ≤ 10
  pub format_for_version : o.point_data_record_format ≤ highest_format minor
  -- 4: record length not below the format's
  pub record_length_lem : format_bytes o.point_data_record_format ≤ o.point_data_record_length
  -- 5: point offset not below header size, nor beyond the file
  pub offset_after_header : o.header_size ≤ o.offset_to_point_data
  pub offset_within : o.offset_to_point_data ≤ length s
  -- 6 and 8: an allowance for each record, one for those before the points and after them
  pub allowed : o.number_of_variable_length_records + o.number_of_later_records ≤ allowance
  -- 6: each VLR ends at or before the point offset
  pub vlrs_whole : Run false o.number_of_variable_length_records (vlr_bytes o s)
  -- 7: points end in the file
  pub points-within : points_end o ≤ length s
  -- 8: EVLRs, or the waveform packets, if any, start after the points and in the file, and each ends in the file
  pub later_start_lem : 0 < o.number_of_later_records → (points_end o ≤ o.start_of_later_records) × (o.start_of_later_records ≤ length s)
  pub later_whole : Run true o.number_of_later_records (drop o.start_of_later_records s)

-- rule 1, of the bytes alone
pub record HeaderHolds (s : List ℕ) : Type 0 where
  -- four bytes and the signature
  pub four_bytes : 4 ≤ length s
  pub signature : part FileSignature s ≡ lasf
  -- 26 bytes and version 1.0 to 1.4
  pub version_bytes : 26 ≤ length s
  pub major : number VersionMajor s ≡ 1
  pub minor : number VersionMinor s ≤ 4
  -- the version's standard size, and what the header-size field says
  pub standard-bytes : standard_in s ≤ length s
  pub field-bytes : number HeaderSize s ≤ length s

-- all eight, of the header that the bytes hold
pub record Holds (allowance : ℕ) (s : List ℕ) : Type 0 where
  pub header : HeaderHolds s
  pub parts : PartsHold (standard_in s) (number VersionMinor s) allowance (outline_of (header_in s)) s

-- rule 1 holds exactly where the header reader answers
pub judged-holds : (s : List ℕ) {n e : ℕ} → judged s ≡ Ok (whole_of n e) → HeaderHolds s × (n ≡ standard_in s)
judged-holds s p =
    let a = accepted s p in
    let w = within s p in (
      record {
        four_bytes = omega (arith, w.0, w.1, w.2);
        signature = a.signature;
        version_bytes = omega (arith, w.0, w.1, w.2);
        major = a.major;
        minor = omega (arith, a.minor);
        standard-bytes = rw a.block at a.holds-block;
        field-bytes = a.holds-field;
      },
      a.block,
    )

pub holds-judged : (s : List ℕ) → HeaderHolds s → judged s ≡ Ok (whole_of (standard_in s) (padded_to (standard_in s) (number HeaderSize s)))
holds-judged s h =
    whole s (record { signature = h.signature; major = h.major; minor = omega (arith, h.minor); block = refl; holds-block = h.standard-bytes; holds-field = h.field-bytes; end = refl })

module _ (n minor a : ℕ) (o : Outline) (s : List ℕ) where
  -- rule 8 and back
  record Later : Type 0 where
    allowed : o.number_of_variable_length_records + o.number_of_later_records ≤ a
    start : 0 < o.number_of_later_records → (points_end o ≤ o.start_of_later_records) × (o.start_of_later_records ≤ length s)
    whole : Run true o.number_of_later_records (drop o.start_of_later_records s)

  -- the rules where there are later records
  abbrev pub some : List Rule
  some =
      let vlrs = o.number_of_variable_length_records in
      let start = o.start_of_later_records in
      rule (leb (points_end o) start) (start_refusal o) vlrs ∷ rule (leb start (length s)) (start_refusal o) vlrs ∷ record_rules true a vlrs o.number_of_later_records (drop start s)

  later_hold : o.number_of_variable_length_records ≤ a → All (later_rules a o s) → Later
  unfolding later_rules
  later_hold enough = go (eqb o.number_of_later_records 0) refl
    where
      go : (b : Bool) → eqb o.number_of_later_records 0 ≡ b → All (cond b [] some) → Later
      go true p all =
          let none : o.number_of_later_records ≡ 0 = eqb-true _ _ p in
          record { allowed = omega arith; start = λ more. absurd (omega arith); whole = rw none tt }
      go false p (after, (inside, records)) =
          let r = records_hold true a o.number_of_variable_length_records o.number_of_later_records (drop o.start_of_later_records s) enough records in
          record { allowed = r.0; start = λ more. (leb-true _ _ after, leb-true _ _ inside); whole = r.1 }

  later_all : Later → All (later_rules a o s)
  unfolding later_rules
  later_all e = go (eqb o.number_of_later_records 0) refl
    where
      go : (b : Bool) → eqb o.number_of_later_records 0 ≡ b → All (cond b [] some)
      go true p = tt
      go false p =
          let from = e.start (pos_of_ne-zero (eqb-false _ _ p)) in
          (le-leb _ _ from.0, (le-leb _ _ from.1, records_all true a o.number_of_variable_length_records o.number_of_later_records (drop o.start_of_later_records s) e.allowed e.whole))

  pub parts_hold : All (outline_rules n minor a o s) → PartsHold n minor a o s
  unfolding outline_rules header_rules part_rules vlr_rules point_rule
  parts_hold (size, (known, (compressed, (version, (long, (after, (inside, all))))))) =
      let f = o.point_data_record_format in
      let split = all_split (vlr_rules a o s) _ all in
      let vlrs = records_hold false a 0 o.number_of_variable_length_records (vlr_bytes o s) (omega arith) split.0 in
      let later = later_hold (omega (arith, vlrs.0)) split.1.1 in
      record {
        header-size = leb-true _ _ size;
        format = low f (leb f 10) refl known (ltb-true _ _ compressed);
        format_for_version = leb-true _ _ version;
        record_length_lem = leb-true _ _ long;
        offset_after_header = leb-true _ _ after;
        offset_within = leb-true _ _ inside;
        allowed = later.allowed;
        vlrs_whole = vlrs.1;
        points-within = leb-true _ _ split.1.0;
        later_start_lem = later.start;
        later_whole = later.whole;
      }
    where
      low : (f : ℕ) (b : Bool) → leb f 10 ≡ b → b || leb 128 f ≡ true → f < 128 → f ≤ 10
      low f true p k c = leb-true f 10 p
      low f false p k c = absurd (omega (arith, leb-true 128 f k))

  pub parts_all : PartsHold n minor a o s → All (outline_rules n minor a o s)
  unfolding outline_rules header_rules part_rules vlr_rules point_rule
  parts_all h =
      let f = o.point_data_record_format in (
        le-leb _ _ h.header-size,
        (
          rw (le-leb f 10 h.format),
          (
            lt-ltb f 128 (omega (arith, h.format)),
            (
              le-leb _ _ h.format_for_version,
              (
                le-leb _ _ h.record_length_lem,
                (
                  le-leb _ _ h.offset_after_header,
                  (
                    le-leb _ _ h.offset_within,
                    all_append (record_rules false a 0 o.number_of_variable_length_records (vlr_bytes o s)) _ (records_all false a 0 o.number_of_variable_length_records (vlr_bytes o s) (omega (arith, h.allowed)) h.vlrs_whole)
                        (le-leb _ _ h.points-within, later_all (record { allowed = h.allowed; start = h.later_start_lem; whole = h.later_whole })),
                  ),
                ),
              ),
            ),
          ),
        ),
      )

-- the list of rules holds exactly where the conjunction does
pub rules_hold : (a : ℕ) (s : List ℕ) → All (rules_of a s) → Holds a s
unfolding rules_of readable standard_size
rules_hold a s = go (judged s) refl
  where
    go : (j : Result Whole Refusal) → judged s ≡ j → All (readable j ++ outline_rules (standard_size j) (header_in s).version.minor a (outline_of (header_in s)) s) → Holds a s
    go (Ok whole) p all =
        let h = judged-holds s p in
        record { header = h.0; parts = rw (h.1, minor_read s p) at (parts_hold whole.block (header_in s).version.minor a _ s all) }
    go (Err r) p (false-holds, later) = absurd (subst T (sym false-holds) tt)

pub rules_all : (a : ℕ) (s : List ℕ) → Holds a s → All (rules_of a s)
unfolding rules_of readable standard_size
rules_all a s h = let p = holds-judged s h.header in rw (p, minor_read s p) (parts_all _ _ a _ s h.parts)
