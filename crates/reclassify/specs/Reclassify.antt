-- The class of one point set in an accepted file, in place: document 02, No. 13. All sums and products are exact.
use Rattle.rules.specs.NotAccepted.{refused_of}
use Rattle.std.specs.Prelude.{Result, Ok, Err}
use Rattle.refusal.specs.Refused.{at_record}
use Rattle.refusal.specs.declared.Refused.{Refused}
use Rattle.rules.specs.declared.NotAccepted.{NotAccepted}
use Rattle.std.specs.Prelude.{ℕ, ◌+◌, ◌*◌, ◌-◌, Bool, cond, ◌&&◌, not, List, ltb, leb, set}
use Rattle.refusal.specs.declared.Refusal.TheVariants.{Index, Class}
use Rattle.le.specs.Le.{num}
use Rattle.point.specs.Class.{class_place, class_in, classed}
use Rattle.header.specs.Judged.{header_in}
use Rattle.outline.specs.declared.Outline.{Outline}
use Rattle.outline.specs.Outline.{outline_of}
use Rattle.file.specs.Rules.{checked_of}
use Rattle.reclassify.specs.declared.Change.{Change}

-- formats 6 to 10
abbrev pub is_extended : Outline → Bool
is_extended o = leb 6 o.point_data_record_format

-- where the record of the i-th point begins, the first being 1; its length is the header's field
abbrev pub record_at : Outline → ℕ → ℕ
record_at o i = o.offset_to_point_data + (i - 1) * o.point_data_record_length

-- the byte at a place of the file with class c, and the class that it had
abbrev pub change_at : Bool → ℕ → ℕ → List ℕ → Change
change_at extended at c s = record { at = at; byte = classed extended c (num 1 at s); class = class_in extended (num 1 at s) }

-- "Refusals, in order: file check; index; class above 31 in formats 0 to 5."
unfoldable pub asked_in : Outline → ℕ → ℕ → List ℕ → Result Change Refused
asked_in o i c s =
    let extended = is_extended o in
    cond (ltb 0 i && leb i o.number_of_point_records)
    (cond (not extended && ltb 31 c) (Err (at_record (Class c) 0)) (Ok (change_at extended (record_at o i + class_place extended) c s)))
    (Err (at_record (Index o.number_of_point_records) 0))

abbrev pub asked_by : Result ℕ NotAccepted → ℕ → ℕ → List ℕ → Result Change Refused
asked_by (Err err) i c s = Err (refused_of err)
asked_by (Ok found) i c s = asked_in (outline_of (header_in s)) i c s

unfoldable pub asked_of : ℕ → ℕ → ℕ → List ℕ → Result Change Refused
asked_of allowance i c s = asked_by (checked_of allowance s) i c s

-- "Set the class of one point in an accepted file, in place": that byte is set, and a refusal leaves the file
abbrev pub reclassified_by : Result Change Refused → List ℕ → Result ℕ Refused × List ℕ
reclassified_by (Ok x) s = (Ok x.class, set s x.at x.byte)
reclassified_by (Err err) s = (Err err, s)

unfoldable pub reclassified_of : ℕ → ℕ → ℕ → List ℕ → Result ℕ Refused × List ℕ
reclassified_of allowance i c s = reclassified_by (asked_of allowance i c s) s
