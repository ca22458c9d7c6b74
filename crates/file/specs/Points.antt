-- The format of a file's points: the header's, with the header's record length.
use Rattle.std.specs.Prelude.{Result, Ok, Err}
use Rattle.refusal.specs.declared.Refusal.{Refusal}
use Rattle.std.specs.Prelude.{ℕ, ◌-◌, ◌≤◌, ◌≡◌, false, List, leb}
use Rattle.std.proofs.Math.Path.{ap}
use Rattle.std.proofs.Common.{◌∙◌, arith}
use Rattle.le.specs.Le.{Bytes}
use Rattle.format.specs.declared.Format.{Format}
use Rattle.format.specs.Format.{plain, with_extra}
use Rattle.format.specs.Codes.{coded, format_of}
use Rattle.format.specs.Fields.{record_bytes, len_of}
use Rattle.format.specs.Laws.{code-known, coded-extended}
use Rattle.format.specs.Length.{len-told}
use Rattle.header.specs.Judged.{header_in}
use Rattle.header.specs.Answers.{record_length-fits, point_offset_fits}
use Rattle.outline.specs.declared.Outline.{Outline}
use Rattle.outline.specs.Outline.{outline_of, offset_is, record_length_is}
use Rattle.rules.specs.Rules.{format_bytes}
use Rattle.rules.specs.Laws.{filled-bytes}
use Rattle.file.specs.Holds.{Holds}

-- "Record length below the format's: 8. The rest is extra bytes." Where the code is refused, the format with no attribute.
abbrev pub filled : ℕ → Result Format Refusal → Format
filled record_length (Ok f) = with_extra (record_length - record_bytes f) f
filled record_length (Err r) = plain

-- the format of the header's code, in records of the header's record length
unfoldable pub point_format : Outline → Format
point_format o = filled o.point_data_record_length (format_of o.point_data_record_format)

-- a record length is a number of two bytes
pub length-fits : (s : List ℕ) → Bytes s → (outline_of (header_in s)).point_data_record_length ≤ 65535
length-fits s bytes = rw record_length_is (record_length-fits s bytes)

-- and a point offset one of four
pub offset_fits : (s : List ℕ) → Bytes s → (outline_of (header_in s)).offset_to_point_data ≤ 4294967295
offset_fits s bytes = rw offset_is (point_offset_fits s bytes)

-- An accepted file, by rules 3 and 4:
module _ (allowance : ℕ) (s : List ℕ) (h : Holds allowance s) where
  abbrev o : Outline
  o = outline_of (header_in s)

  abbrev code : ℕ
  code = o.point_data_record_format

  -- the format is the code's, with the rest as extra bytes,
  pub format_is : point_format o ≡ with_extra (o.point_data_record_length - format_bytes code) (coded code false)
  unfolding point_format format_bytes
  format_is = ap (filled o.point_data_record_length) (code-known code (omega (arith, h.parts.format)))

  -- extended from 6 on,
  pub format_extended : (point_format o).is_extended ≡ leb 6 code
  format_extended = ap (λ (f : Format). f.is_extended) format_is ∙ coded-extended code false

  -- and its record is as long as the header says,
  pub format_long : record_bytes (point_format o) ≡ o.point_data_record_length
  format_long = ap record_bytes format_is ∙ filled-bytes code o.point_data_record_length h.parts.record_length_lem

  -- which is never overlong.
  pub format_len : Bytes s → len_of (point_format o) ≡ Ok o.point_data_record_length
  format_len bytes = len-told (point_format o) (rw format_long (length-fits s bytes)) ∙ ap Ok format_long
