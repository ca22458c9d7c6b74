-- Whole files, old to new and back: document 02, No. 3. The header is the other version's (header_convert/specs/Turned.antt), the points are
-- those of document 01's upgrade or strict conversion (convert/specs/Run.antt), and all else is copied.
use Rattle.rules.specs.NotAccepted.{refused_of}
use Rattle.std.specs.Prelude.{Result, Ok, Err}
use Rattle.refusal.specs.Refused.{at_record}
use Rattle.judge.specs.Run.{run_of}
use Rattle.refusal.specs.declared.Refused.{Refused}
use Rattle.refusal.specs.declared.Refusal.{Refusal}
use Rattle.judge.specs.declared.Run.{Run}
use Rattle.rules.specs.declared.NotAccepted.{NotAccepted}
use Rattle.std.specs.Prelude.{ℕ, ◌+◌, ◌*◌, ◌-◌, Bool, true, false, cond, List, ◌++◌, ltb, length, take, drop}
use Rattle.refusal.specs.declared.Refusal.TheVariants.{NoRoom}
use Rattle.header.specs.declared.Header.{Header}
use Rattle.header.specs.Judged.{header_in, padding_of}
use Rattle.header_write.specs.Bytes.{block}
use Rattle.outline.specs.declared.Outline.{Outline}
use Rattle.outline.specs.Outline.{outline_of}
use Rattle.extents.specs.Extents.{points_end, vlr_bytes}
use Rattle.file.specs.Rules.{checked_of}
use Rattle.file.specs.Points.{point_format}
use Rattle.pairs.specs.declared.Plan.{Plan}
use Rattle.convert.specs.Run.{images_of}
use Rattle.convert.specs.Demand.{ask_of}
use Rattle.header_convert.specs.Turned.{new_header, old_header, new_goes, old_goes}

-- whether a header goes up (true) or down, and what it becomes
abbrev pub goes_of : Bool → Header → Result Unit Refusal
goes_of true h = new_goes h
goes_of false h = old_goes h

abbrev pub other_of : Bool → Header → Header
other_of true h = new_header h
other_of false h = old_header h

-- the points of a file, and how many extra bytes each has
abbrev pub point_bytes : Outline → List ℕ → List ℕ
point_bytes o s = take (o.number_of_point_records * o.point_data_record_length) (drop o.offset_to_point_data s)

abbrev pub extra_in : Outline → ℕ
extra_in o = (point_format o).extra_bytes

-- "point bytes follow document 01's upgrade or strict conversion": what the question of the run answers
unfoldable pub run_verdict : Bool → Outline → List ℕ → Result Run Refused
run_verdict up o s = ask_of up o.point_data_record_format (extra_in o) o.number_of_point_records (point_bytes o s)

-- the new file: its header, "VLRs, padding and gaps are copied", the points by the plan, and what follows them
unfoldable pub front_of : Header → Outline → List ℕ → List ℕ
front_of new o s = block new ++ (padding_of s ++ vlr_bytes o s)

unfoldable pub new_file : Bool → Plan → Header → List ℕ → List ℕ
new_file up p h s =
    let o = outline_of h in
    front_of (other_of up h) o s ++ (images_of up p o.number_of_point_records (point_bytes o s) ++ drop (points_end o) s)

-- it has as many bytes as lie before the end of its points, and then what follows the points of the old one
unfoldable pub new_length : Bool → Header → List ℕ → ℕ
new_length up h s = points_end (outline_of (other_of up h)) + (length s - points_end (outline_of h))

-- "Refusals after the file check: .. then the conversion's": the question, which has no destination
abbrev pub placed : ℕ → Result Run Refused → Result Run Refused
placed n (Ok run) = Ok (run_of run.plan n)
placed n (Err err) = Err err

abbrev pub goes_verdict : Result Unit Refusal → Result Run Refused → Result Run Refused
goes_verdict (Ok tt) v = v
goes_verdict (Err r) v = Err (at_record r 0)

unfoldable pub header_verdict : Bool → Header → List ℕ → Result Run Refused
header_verdict up h s = goes_verdict (goes_of up h) (placed (new_length up h s) (run_verdict up (outline_of h) s))

abbrev pub checked_verdict : Result ℕ NotAccepted → Result Run Refused → Result Run Refused
checked_verdict (Ok n) v = v
checked_verdict (Err err) v = Err (refused_of err)

unfoldable pub file_verdict : Bool → ℕ → List ℕ → Result Run Refused
file_verdict up allowance s = checked_verdict (checked_of allowance s) (header_verdict up (header_in s) s)

-- the writing call, which asks it itself: "no room last"; a refusal leaves the destination as it was
abbrev pub done_by : Bool → Header → List ℕ → List ℕ → Result Run Refused → Result ℕ Refused × List ℕ
done_by up h s d (Ok run) = cond (ltb (length d) run.bytes) (Err (at_record (NoRoom run.bytes) 0), d) (Ok run.bytes, new_file up run.plan h s ++ drop run.bytes d)
done_by up h s d (Err err) = (Err err, d)

unfoldable pub migrated_of : Bool → ℕ → List ℕ → List ℕ → Result ℕ Refused × List ℕ
migrated_of up allowance s d = done_by up (header_in s) s d (file_verdict up allowance s)
