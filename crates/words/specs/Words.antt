-- What a word means: a value that C holds as a u32, its parts at fixed bits.
use Rattle.std.specs.Prelude.{ℕ, ◌+◌, ◌*◌, ◌/◌, ◌%◌, cond, eqb}
use Rattle.std.specs.Int.{w8, w16}
use Rattle.std.proofs.Common.{to_z, of_z}
use Rattle.angle.specs.declared.ScanAngle.{ScanAngle}
use Rattle.angle.specs.declared.ScanAngle.TheVariants.{Rank, Scaled}
use Rattle.flags.specs.declared.Flags.{Flags}
use Rattle.flags.specs.declared.Flags.TheVariants.{TwoByte, ThreeByte}
use Rattle.flags.specs.declared.ThreeBytes.{ThreeBytes}
use Rattle.flags.specs.declared.ScanDirection.{ScanDirection}
use Rattle.flags.specs.declared.ScanDirection.TheVariants.{RightToLeft, LeftToRight}
use Rattle.flags.specs.Bytes.{flag}
use Rattle.format.specs.declared.Format.{Format}

-- four bytes as a number, the lowest first
abbrev pub packed_of : ℕ → ℕ → ℕ → ℕ → ℕ
packed_of a b c d = a + b * 256 + c * 65536 + d * 16777216

-- flags: the bytes from bit 0 up, and in bits 24 to 31 how many there are; any other number than 3 there says two
unfoldable pub flags_of : ℕ → Flags
flags_of w =
    cond (eqb (w / 16777216) 3) (ThreeByte (w % 256) (w / 256 % 256) (w / 65536 % 256)) (TwoByte (w % 256) (w / 256 % 256))

abbrev pub flags_word : Flags → ℕ
flags_word (TwoByte a b) = packed_of a b 0 2
flags_word (ThreeByte a b c) = packed_of a b c 3

abbrev pub three_word : ThreeBytes → ℕ
three_word t = packed_of t.a t.b t.c 3

-- a direction: 0 right to left, 1 left to right
abbrev pub direction_word : ScanDirection → ℕ
direction_word RightToLeft = 0
direction_word LeftToRight = 1

-- a format: time, colour, extended, waveform, near infrared and compressed in bits 0 to 5, the extra bytes in bits 16 to 31
unfoldable pub format_of_word : ℕ → Format
format_of_word w =
    record {
      has_gps_time = eqb (w % 2) 1;
      has_color = eqb (w / 2 % 2) 1;
      is_extended = eqb (w / 4 % 2) 1;
      has_waveform = eqb (w / 8 % 2) 1;
      has_nir = eqb (w / 16 % 2) 1;
      extra_bytes = w / 65536;
      is_compressed = eqb (w / 32 % 2) 1;
    }

unfoldable pub format_word : Format → ℕ
format_word f =
    flag f.has_gps_time + flag f.has_color * 2 + flag f.is_extended * 4 + flag f.has_waveform * 8
    + flag f.has_nir * 16 + flag f.is_compressed * 32 + f.extra_bytes * 65536

-- an angle: in bits 16 to 31 its kind, 1 for a scaled one with its two's complement in bits 0 to 15; any other kind is a rank with its own in bits 0 to 7
unfoldable pub angle_of : ℕ → ScanAngle
angle_of w = cond (eqb (w / 65536) 1) (Scaled (to_z w16 (w % 65536))) (Rank (to_z w8 (w % 256)))

abbrev pub angle_word : ScanAngle → ℕ
angle_word (Rank r) = of_z w8 r
angle_word (Scaled n) = of_z w16 n + 65536
