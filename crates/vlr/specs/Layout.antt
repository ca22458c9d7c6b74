-- The heads of VLRs and EVLRs: LAS 1.4 R15, "Variable Length Records" and "Extended Variable Length Records".
use Rattle.std.specs.Prelude.{ℕ, Bool, cond, List, [], ◌∷◌}

pub data Field : Type 0 where
  Reserved : Field
  UserId : Field
  RecordId : Field
  LengthAfterHeader : Field
  Description : Field

-- in their order
abbrev pub fields : List Field
fields = Reserved ∷ UserId ∷ RecordId ∷ LengthAfterHeader ∷ Description ∷ []

-- the bytes of a field; the first argument tells whether the record is extended
abbrev pub width : Bool → Field → ℕ
width extended Reserved = 2
width extended UserId = 16
width extended RecordId = 2
width extended LengthAfterHeader = cond extended 8 2
width extended Description = 32

-- the byte of the record at which a field starts
abbrev pub place : Bool → Field → ℕ
place extended Reserved = 0
place extended UserId = 2
place extended RecordId = 18
place extended LengthAfterHeader = 20
place extended Description = cond extended 28 22

-- "VLR head: 54 bytes with a u16 length. EVLR head: 60 with a u64 length."
abbrev pub head_size : Bool → ℕ
head_size extended = cond extended 60 54
