-- What each bit of a point's flags says. LAS 1.4 R15, point data record formats 0 and 6; document 01, "Old flags" and "Extended".
use Rattle.std.specs.Prelude.{ℕ, ◌/◌, ◌%◌, ◌^◌, Bool, cond, eqb}
use Rattle.flags.specs.declared.Flags.{Flags}
use Rattle.flags.specs.declared.Flags.TheVariants.{TwoByte, ThreeByte}
use Rattle.flags.specs.declared.ScanDirection.{ScanDirection}
use Rattle.flags.specs.declared.ScanDirection.TheVariants.{RightToLeft, LeftToRight}

-- the number in the lowest n bits of a byte
abbrev pub low : ℕ → ℕ → ℕ
low n x = x % 2 ^ n

-- the number in the n bits of a byte from bit k up, for k above 0
abbrev pub field : ℕ → ℕ → ℕ → ℕ
field k n x = x / 2 ^ k % 2 ^ n

-- whether bit k of a byte is set, for k above 0
abbrev pub bit : ℕ → ℕ → Bool
bit k x = eqb (field k 1 x) 1

-- old: bits 0 to 2 of byte one; extended: bits 0 to 3 of byte one
abbrev pub return_number_of : Flags → ℕ
return_number_of (TwoByte a b) = low 3 a
return_number_of (ThreeByte a b c) = low 4 a

-- old: bits 3 to 5 of byte one; extended: bits 4 to 7 of byte one
abbrev pub number_of_returns_of : Flags → ℕ
number_of_returns_of (TwoByte a b) = field 3 3 a
number_of_returns_of (ThreeByte a b c) = field 4 4 a

-- bit 6 of byte one (old) or of byte two (extended), and which way it says
abbrev pub direction_bit : Flags → Bool
direction_bit (TwoByte a b) = bit 6 a
direction_bit (ThreeByte a b c) = bit 6 b

abbrev pub direction_of : Flags → ScanDirection
direction_of f = cond (direction_bit f) LeftToRight RightToLeft

-- bit 7 of byte one (old) or of byte two (extended)
abbrev pub edge_of : Flags → Bool
edge_of (TwoByte a b) = bit 7 a
edge_of (ThreeByte a b c) = bit 7 b

-- old: bits 0 to 4 of byte two; extended: byte three
abbrev pub class_of : Flags → ℕ
class_of (TwoByte a b) = low 5 b
class_of (ThreeByte a b c) = c

-- bit 5 (old) or bit 0 (extended) of byte two
abbrev pub synthetic_of : Flags → Bool
synthetic_of (TwoByte a b) = bit 5 b
synthetic_of (ThreeByte a b c) = eqb (low 1 b) 1

-- bit 6 (old) or bit 1 (extended) of byte two
abbrev pub key_point_of : Flags → Bool
key_point_of (TwoByte a b) = bit 6 b
key_point_of (ThreeByte a b c) = bit 1 b

-- bit 7 (old) or bit 2 (extended) of byte two
abbrev pub withheld_of : Flags → Bool
withheld_of (TwoByte a b) = bit 7 b
withheld_of (ThreeByte a b c) = bit 2 b

-- bit 3 of byte two (extended); in old flags the Rust reads it from the low four bits of the class being 12, so at class 28 too
abbrev pub overlap_of : Flags → Bool
overlap_of (TwoByte a b) = eqb (low 4 b) 12
overlap_of (ThreeByte a b c) = bit 3 b

-- the standard's reading: in old flags it is class 12
abbrev pub standard_overlap_of : Flags → Bool
standard_overlap_of (TwoByte a b) = eqb (low 5 b) 12
standard_overlap_of (ThreeByte a b c) = bit 3 b

-- bits 4 and 5 of byte two (extended); old flags have none
abbrev pub channel_of : Flags → ℕ
channel_of (TwoByte a b) = 0
channel_of (ThreeByte a b c) = field 4 2 b
