-- A VLR's or an EVLR's three numbers, both ways, and the rows of its calls.
use Rattle.refusal.specs.declared.Refusal.{Refusal}
use Rattle.std.specs.Prelude.{ℕ, ◌%◌, Bool, true, false, cond, List, [], ◌∷◌, ltb, get_or, length, Result, Ok, Err}
use Rattle.refusal.specs.declared.Refusal.TheVariants.{VlrDataLength}
use Rattle.words.specs.Rows.{refused_row, written_row, part_row}
use Rattle.vlr.specs.declared.RecordLength.{RecordLength}
use Rattle.vlr.specs.declared.RecordLength.TheVariants as kind
use Rattle.vlr.specs.declared.Vlr.{Vlr}
use Rattle.vlr.specs.Layout.{head_size}
use Rattle.vlr.specs.Vlr.{data_length, data_of, written_of}

-- the reserved number, the record id and the stated length
unfoldable pub numbers_of : Vlr → List ℕ
numbers_of v = v.reserved ∷ v.record_id ∷ data_length v.record_length_after_header ∷ []

-- and with them the user id and the description
abbrev pub lent_of : Vlr → List ℕ × List ℕ × List ℕ
lent_of v = (numbers_of v, v.user_id, v.description)

-- an extent's row, whose value is the bytes of the record in all
abbrev pub extent_row : Result ℕ Refusal → List ℕ
extent_row (Ok n) = 0 ∷ n ∷ 0 ∷ []
extent_row (Err r) = refused_row r 0

-- a stated length's row
abbrev pub stated_row : Result RecordLength Refusal → List ℕ
stated_row (Ok n) = 0 ∷ data_length n ∷ 0 ∷ []
stated_row (Err r) = refused_row r 0

-- a read's row, which is its extent's, then the numbers, the user id and the description, which a refusal leaves
abbrev pub read_row : Result ℕ Refusal → Result Vlr Refusal → List ℕ → List ℕ → List ℕ → List ℕ × List ℕ × List ℕ × List ℕ
read_row e (Ok v) numbers user_id description = (extent_row e, numbers_of v, v.user_id, v.description)
read_row e (Err r) numbers user_id description = (extent_row e, numbers, user_id, description)

-- the place and the count of the bytes of data; two zeros where there are none, as on refusal
unfoldable pub data_part : Bool → List ℕ → List ℕ
data_part extended s = part_row (head_size extended) (length (data_of extended s))

-- whether a stated length is too long for its field, of 16 bits in a VLR
abbrev pub overlong : Bool → ℕ → Bool
overlong false n = ltb 65535 n
overlong true n = false

-- a stated length, and the record of three numbers and two arrays; of another number too wide the low bits count
abbrev pub length_from : Bool → ℕ → RecordLength
length_from false n = kind.Vlr n
length_from true n = kind.Evlr n

unfoldable pub vlr_from : Bool → List ℕ → List ℕ → List ℕ → Vlr
vlr_from extended n user_id description =
    record {
      reserved = get_or n 0 0 % 65536;
      user_id = user_id;
      record_id = get_or n 1 0 % 65536;
      record_length_after_header = length_from extended (get_or n 2 0);
      description = description;
    }

-- a write's row and destination: a length that its head cannot state is refused with 24, as is one that the data has not
unfoldable pub write_row : Bool → List ℕ → List ℕ → List ℕ → List ℕ → List ℕ → List ℕ × List ℕ
write_row extended n user_id description bytes dst =
    cond (overlong extended (get_or n 2 0)) (refused_row (VlrDataLength (get_or n 2 0)) 0, dst)
    (written_row (written_of (vlr_from extended n user_id description) bytes dst))
