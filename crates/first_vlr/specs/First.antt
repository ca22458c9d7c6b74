-- The first VLR with a user id and a record id: document 02, No. 8, "The first such VLR counts", and No. 14, "first VLRs".
use Rattle.rules.specs.NotAccepted.{refused_of}
use Rattle.std.specs.Prelude.{Option, Some, None, Result, Ok, Err}
use Rattle.first_vlr.specs.Span.{span}
use Rattle.first_vlr.specs.declared.Span.{Span}
use Rattle.refusal.specs.declared.Refused.{Refused}
use Rattle.rules.specs.declared.NotAccepted.{NotAccepted}
use Rattle.refusal.specs.declared.Refusal.{Refusal}
use Rattle.std.specs.Prelude.{ℕ, zero, suc, ◌+◌, Bool, false, cond, ◌&&◌, List, eqb, leb, length, drop}
use Rattle.vlr.specs.Layout.{UserId, RecordId, head_size}
use Rattle.vlr.specs.Vlr.{number_in, bytes_in, data_length, length_of, record_size, extent_of}
use Rattle.outline.specs.declared.Outline.{Outline}
use Rattle.file.specs.Rules.{checked_of}
use Rattle.cursor.specs.Parts.{between, outline_in}
use Rattle.names.specs.Names.{is_named}

-- "file check", and what an accepted file's header says of its parts
abbrev pub opened_by : Outline → Result ℕ NotAccepted → Result Outline Refused
opened_by o (Ok n) = Ok o
opened_by o (Err err) = Err (refused_of err)

unfoldable pub opened_of : ℕ → List ℕ → Result Outline Refused
opened_of allowance s = opened_by (outline_in s) (checked_of allowance s)

-- whether the VLR at the start of s has this user id, zeros filling it, and this record id
unfoldable pub is_of : List ℕ → ℕ → List ℕ → Bool
is_of user id s = eqb (number_in false RecordId s) id && is_named (bytes_in false UserId s) user

-- the data of the VLR at the start of what begins at `at` in the file
abbrev pub data_at : ℕ → List ℕ → Option Span
data_at at rest = Some (span (at + head_size false) (data_length (length_of false rest)))

-- this VLR's data, or what the others have; nothing where it is not all there
abbrev pub first_by : List ℕ → ℕ → ℕ → List ℕ → Result ℕ Refusal → Option Span → Option Span
first_by user id at rest (Ok n) others = cond (is_of user id rest) (data_at at rest) others
first_by user id at rest (Err r) others = None

-- the first of `count` VLRs one after the other in `rest`, which begins at `at` in the file
unfoldable pub first_from : List ℕ → ℕ → ℕ → ℕ → List ℕ → Option Span
first_from user id zero at rest = None
first_from user id (suc count) at rest =
    let n = record_size false rest in
    first_by user id at rest (extent_of false rest) (first_from user id count (at + n) (drop n rest))

-- "VLRs follow the header without gaps", up to the point offset
unfoldable pub first_of : Outline → List ℕ → ℕ → List ℕ → Option Span
first_of o user id s =
    let from = o.header_size in
    let to = o.offset_to_point_data in
    cond (leb from to && leb to (length s)) (first_from user id o.number_of_variable_length_records from (between from to s)) None
