-- A descriptor of extra bytes: LAS 1.4 R15, "Extra Bytes", the structure of 192 bytes that the VLR has of each attribute.
use Rattle.std.specs.Prelude.{ℕ, List, [], ◌∷◌}

pub data Field : Type 0 where
  Reserved : Field
  DataType : Field
  Options : Field
  Name : Field
  Unused : Field
  NoData : Field
  Deprecated1 : Field
  Min : Field
  Deprecated2 : Field
  Max : Field
  Deprecated3 : Field
  Scale : Field
  Deprecated4 : Field
  Offset : Field
  Deprecated5 : Field
  Description : Field

-- in their order
abbrev pub fields : List Field
fields =
    Reserved ∷ DataType ∷ Options ∷ Name ∷ Unused ∷ NoData ∷ Deprecated1 ∷ Min ∷ Deprecated2 ∷ Max ∷ Deprecated3 ∷ Scale ∷
    Deprecated4 ∷ Offset ∷ Deprecated5 ∷ Description ∷ []

-- the bytes of a field
abbrev pub width : Field → ℕ
width Reserved = 2
width DataType = 1
width Options = 1
width Name = 32
width Unused = 4
width NoData = 8
width Deprecated1 = 16
width Min = 8
width Deprecated2 = 16
width Max = 8
width Deprecated3 = 16
width Scale = 8
width Deprecated4 = 16
width Offset = 8
width Deprecated5 = 16
width Description = 32

-- the byte of the descriptor at which a field starts
abbrev pub place : Field → ℕ
place Reserved = 0
place DataType = 2
place Options = 3
place Name = 4
place Unused = 36
place NoData = 40
place Deprecated1 = 48
place Min = 64
place Deprecated2 = 72
place Max = 88
place Deprecated3 = 96
place Scale = 112
place Deprecated4 = 120
place Offset = 136
place Deprecated5 = 144
place Description = 160

-- "descriptors of 192 bytes"
abbrev pub descriptor_size : ℕ
descriptor_size = 192
