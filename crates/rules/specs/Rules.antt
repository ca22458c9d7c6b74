-- Document 01, "When a file is accepted": what a rule is, rules 2 to 5, and those of records one after the other. All sums are exact.
use Rattle.std.specs.Prelude.{Result, Err}
use Rattle.rules.specs.NotAccepted.{not_accepted}
use Rattle.rules.specs.declared.NotAccepted.{NotAccepted}
use Rattle.std.specs.Prelude.{ℕ, zero, suc, Bool, true, false, cond, ◌||◌, List, [], ◌∷◌, eqb, ltb, leb, length, drop}
use Rattle.refusal.specs.declared.Refusal.{Refusal}
use Rattle.refusal.specs.declared.Refusal.TheVariants.{HeaderSize, Format, Compressed, FormatForVersion, RecordLength as ShortRecord, PointOffset, Allowance, VlrExtent, EvlrExtent}
use Rattle.refusal.specs.Table.{number_of}
use Rattle.format.specs.Codes.{coded}
use Rattle.format.specs.Fields.{record_bytes}
use Rattle.vlr.specs.declared.RecordLength.{RecordLength}
use Rattle.vlr.specs.declared.RecordLength.TheVariants as kind
use Rattle.vlr.specs.Layout.{head_size}
use Rattle.vlr.specs.Vlr.{length_of, record_size}
use Rattle.outline.specs.declared.Outline.{Outline}

-- A rule: whether it holds, the refusal where it does not, and the number of records found whole before it.
pub record Rule : Type 0 where
  pub holds : Bool
  pub refusal : Refusal
  pub found : ℕ

abbrev pub rule : Bool → Refusal → ℕ → Rule
rule b r n = record { holds = b; refusal = r; found = n }

-- "for 10, 11 and 13 the VLR or EVLR, counted through both kinds; .. otherwise 0"; the record that is not whole is the next one
unfoldable pub record_number : Refusal → ℕ → ℕ
record_number r n = cond (eqb (number_of r) 10 || (eqb (number_of r) 11 || eqb (number_of r) 13)) (suc n) 0

abbrev pub refused_by : Rule → Result ℕ NotAccepted
refused_by r = Err (not_accepted r.refusal (record_number r.refusal r.found) r.found)

-- "Checked in this order; the first that fails is the answer."
unfoldable pub first : List Rule → Result ℕ NotAccepted → Result ℕ NotAccepted
first [] done = done
first (r ∷ rs) done = cond r.holds (first rs done) (refused_by r)

-- "above 1 in 1.0 and 1.1, above 3 in 1.2, above 5 in 1.3"
unfoldable pub highest_format : ℕ → ℕ
highest_format minor = cond (ltb minor 2) 1 (cond (ltb minor 3) 3 (cond (ltb minor 4) 5 10))

-- the bytes of a record of the format with this code
unfoldable pub format_bytes : ℕ → ℕ
format_bytes f = record_bytes (coded f false)

-- Rules 2 to 5, for a header whose standard size is n, in a file of m bytes.
unfoldable pub header_rules : ℕ → ℕ → Outline → ℕ → List Rule
header_rules n minor o m =
    let f = o.point_data_record_format in
    let record_length = o.point_data_record_length in
    let offset = o.offset_to_point_data in
    -- "Header-size field below standard: 4."
    rule (leb n o.header_size) (HeaderSize o.header_size) 0 ∷
    -- "Format 11 to 127: 5; 128 or more: 6"
    rule (leb f 10 || leb 128 f) (Format f) 0 ∷
    rule (ltb f 128) (Compressed f) 0 ∷
    rule (leb f (highest_format minor)) (FormatForVersion f) 0 ∷
    -- "Record length below the format's: 8."
    rule (leb (format_bytes f) record_length) (ShortRecord record_length) 0 ∷
    -- "Point offset below header size or beyond the file: 9."
    rule (leb o.header_size offset) (PointOffset offset) 0 ∷
    rule (leb offset m) (PointOffset offset) 0 ∷
    []

-- 11 or 13 with the length field
abbrev pub too_far : RecordLength → Refusal
too_far (kind.Vlr n) = VlrExtent n
too_far (kind.Evlr n) = EvlrExtent n

abbrev pub no_length : Bool → RecordLength
no_length false = kind.Vlr 0
no_length true = kind.Evlr 0

-- Rule 6, and the end of rule 8: k records one after the other at the start of `rest`, after n were found whole. "For each: none
-- left of an allowance of record headers: 10; head and data not ending at or before the point offset: 11", with "length field,
-- 0 if its head ends too late"; so too for EVLRs, 13 and the end of the file.
unfoldable pub record_rules : Bool → ℕ → ℕ → ℕ → List ℕ → List Rule
record_rules extended allowance n zero rest = []
record_rules extended allowance n (suc k) rest =
    rule (ltb n allowance) (Allowance allowance) n ∷
    rule (leb (head_size extended) (length rest)) (too_far (no_length extended)) n ∷
    rule (leb (record_size extended rest) (length rest)) (too_far (length_of extended rest)) n ∷
    record_rules extended allowance (suc n) k (drop (record_size extended rest) rest)
