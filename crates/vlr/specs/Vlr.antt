-- What reading and writing a VLR or an EVLR answers, from the table of Layout and document 01.
use Rattle.std.specs.Prelude.{Result, Ok, Err}
use Rattle.refusal.specs.declared.Refusal.{Refusal}
use Rattle.std.specs.Prelude.{ℕ, ◌+◌, ◌^◌, ◌<◌, ◌≡◌, Bool, true, false, cond, List, [], ◌++◌, length, replicate, ltb, eqb}
use Rattle.le.specs.Le.{num, bytes}
use Rattle.refusal.specs.declared.Refusal.TheVariants.{Short, VlrDataLength}
use Rattle.refusal.specs.Table.{wanted_of}
use Rattle.lent.specs.Front.{front_of}
use Rattle.vlr.specs.declared.RecordLength.{RecordLength}
use Rattle.vlr.specs.declared.RecordLength.TheVariants as kind
use Rattle.vlr.specs.declared.Vlr.{Vlr}
use Rattle.fields.specs.Table.{joined, part}
use Rattle.vlr.specs.Layout.{Field, Reserved, UserId, RecordId, LengthAfterHeader, Description, fields, width, place, head_size}

-- how many bytes of data a length states; whether it is an EVLR's, and whether a record is one
abbrev pub data_length : RecordLength → ℕ
data_length (kind.Vlr n) = n
data_length (kind.Evlr n) = n

abbrev pub is_extended : RecordLength → Bool
is_extended (kind.Vlr n) = false
is_extended (kind.Evlr n) = true

abbrev pub is_evlr : Vlr → Bool
is_evlr v = is_extended v.record_length_after_header

-- the number, or the bytes, that s has in the place of a field
abbrev pub number_in : Bool → Field → List ℕ → ℕ
number_in extended f s = num (width extended f) (place extended f) s

abbrev pub bytes_in : Bool → Field → List ℕ → List ℕ
bytes_in extended f s = part (width extended f) (place extended f) s

-- the length that a head states
abbrev pub length_of : Bool → List ℕ → RecordLength
length_of false s = kind.Vlr (number_in false LengthAfterHeader s)
length_of true s = kind.Evlr (number_in true LengthAfterHeader s)

-- the same, or refusal 1 with the head's size where the head is not all there
unfoldable pub stated_of : Bool → List ℕ → Result RecordLength Refusal
stated_of extended s = cond (ltb (length s) (head_size extended)) (Err (Short (head_size extended))) (Ok (length_of extended s))

-- the record whose head is at the start of s
unfoldable pub vlr_of : Bool → List ℕ → Vlr
vlr_of extended s =
    record {
      reserved = number_in extended Reserved s;
      user_id = bytes_in extended UserId s;
      record_id = number_in extended RecordId s;
      record_length_after_header = length_of extended s;
      description = bytes_in extended Description s;
    }

-- what the Rust's `Default` gives
unfoldable pub no_vlr : Vlr
no_vlr =
    record {
      reserved = 0;
      user_id = replicate (width false UserId) 0;
      record_id = 0;
      record_length_after_header = kind.Vlr 0;
      description = replicate (width false Description) 0;
    }

-- the bytes of the record at the start of s, head and data
unfoldable pub record_size : Bool → List ℕ → ℕ
record_size extended s = head_size extended + data_length (length_of extended s)

-- refusal 1 where the head, and then where the whole record is not there; else its bytes
unfoldable pub extent_of : Bool → List ℕ → Result ℕ Refusal
extent_of extended s =
    cond (ltb (length s) (head_size extended)) (Err (Short (head_size extended)))
    (cond (ltb (length s) (record_size extended s)) (Err (Short (wanted_of (record_size extended s))))
    (Ok (record_size extended s)))

-- the first where the record is all there, the second where it is refused
abbrev pub when_whole : {A : Type 0} → Result ℕ Refusal → A → A → A
when_whole (Ok n) x y = x
when_whole (Err r) x y = y

-- the record where it is all there, or what it is refused for
abbrev pub read_by : Vlr → Result ℕ Refusal → Result Vlr Refusal
read_by v (Ok n) = Ok v
read_by v (Err r) = Err r

unfoldable pub read_of : Bool → List ℕ → Result Vlr Refusal
read_of extended s = read_by (vlr_of extended s) (extent_of extended s)

-- "The data is shown as that part of the caller's bytes", "empty on refusal"
unfoldable pub data_of : Bool → List ℕ → List ℕ
data_of extended s = when_whole (extent_of extended s) (part (data_length (length_of extended s)) (head_size extended) s) []

-- the bytes of a length
abbrev pub length_bytes : RecordLength → List ℕ
length_bytes n = bytes (width (is_extended n) LengthAfterHeader) (data_length n)

-- the bytes of a field of v
abbrev pub field_bytes : Vlr → Field → List ℕ
field_bytes v Reserved = bytes (width (is_evlr v) Reserved) v.reserved
field_bytes v UserId = v.user_id
field_bytes v RecordId = bytes (width (is_evlr v) RecordId) v.record_id
field_bytes v LengthAfterHeader = length_bytes v.record_length_after_header
field_bytes v Description = v.description

-- the head of v
unfoldable pub head_bytes : Vlr → List ℕ
head_bytes v = joined (field_bytes v) fields

-- refusal 24 where the data has not the stated length; else the head and the data go to the front of d, or refusal 22
unfoldable pub written_of : Vlr → List ℕ → List ℕ → Result ℕ Refusal × List ℕ
written_of v content d =
    let wanted = data_length v.record_length_after_header in
    cond (eqb (length content) wanted) (front_of (head_bytes v ++ content) d) (Err (VlrDataLength wanted), d)

-- what the Rust's types say of a record: numbers in their widths, arrays of their lengths
pub record Typed (v : Vlr) : Type 0 where
  pub reserved : v.reserved < 256 ^ width (is_evlr v) Reserved
  pub user_id : length v.user_id ≡ width (is_evlr v) UserId
  pub record_id : v.record_id < 256 ^ width (is_evlr v) RecordId
  pub stated : data_length v.record_length_after_header < 256 ^ width (is_evlr v) LengthAfterHeader
  pub description : length v.description ≡ width (is_evlr v) Description
