-- A point as 24 numbers, both ways, and the rows of its calls.
use Rattle.le.specs.declared.float.F64.{F64}
use Rattle.refusal.specs.declared.Refusal.{Refusal}
use Rattle.std.specs.Prelude.{ℕ, ◌%◌, cond, List, [], ◌∷◌, eqb, Float, get_or, length, Option, Some, None, Result, Ok, Err}
use Rattle.std.specs.Int.{w32}
use Rattle.std.proofs.Common.{to_z, of_z}
use Rattle.le.specs.Real.{f32_of, f64_of, f32_bits_of, f64_bits_of}
use Rattle.words.specs.Words.{flags_of, flags_word, angle_of, angle_word}
use Rattle.words.specs.Rows.{refused_row, part_row}
use Rattle.format.specs.declared.Format.{Format}
use Rattle.format.specs.declared.Field.TheVariants.{ExtraBytes}
use Rattle.format.specs.Fields.{place_of}
use Rattle.point.specs.Read.{extra_of}
use Rattle.point.specs.declared.Color.{Color}
use Rattle.point.specs.declared.Waveform.{Waveform}
use Rattle.point.specs.declared.Point.{Point}
use Rattle.capi_point.specs.declared.Bits.{Bits}

-- whether a part is there, and what stands for it where it isn't
abbrev pub has_time : Option F64 → ℕ
has_time (Some t) = 1
has_time None = 0

abbrev pub time_bits_of : Option F64 → ℕ
time_bits_of (Some t) = f64_bits_of t
time_bits_of None = 0

abbrev pub has_color : Option Color → ℕ
has_color (Some c) = 1
has_color None = 0

abbrev pub color_or : Option Color → Color
color_or (Some c) = c
color_or None = record { red = 0; green = 0; blue = 0 }

abbrev pub has_nir : Option ℕ → ℕ
has_nir (Some n) = 1
has_nir None = 0

abbrev pub nir_or : Option ℕ → ℕ
nir_or (Some n) = n
nir_or None = 0

-- a waveform of an index, an offset, a size and the bits of four floats
unfoldable pub waveform_from : ℕ → ℕ → ℕ → Bits → Waveform
waveform_from index offset size b =
    record {
      wave_packet_descriptor_index = index;
      byte_offset_to_waveform_data = offset;
      waveform_packet_size_in_bytes = size;
      return_point_waveform_location = (f32_of b.location).value;
      x_t = (f32_of b.x_t).value;
      y_t = (f32_of b.y_t).value;
      z_t = (f32_of b.z_t).value;
      nans = record {
        return_point_waveform_location = (f32_of b.location).nan;
        x_t = (f32_of b.x_t).nan;
        y_t = (f32_of b.y_t).nan;
        z_t = (f32_of b.z_t).nan;
      };
    }

abbrev pub has_waveform : Option Waveform → ℕ
has_waveform (Some w) = 1
has_waveform None = 0

abbrev pub waveform_or : Option Waveform → Waveform
waveform_or (Some w) = w
waveform_or None = waveform_from 0 0 0 (record { location = 0; x_t = 0; y_t = 0; z_t = 0 })

-- the bits of a float with its NaN's pattern beside it
abbrev pub bits_of : Float → ℕ → ℕ
bits_of value nan = f32_bits_of (record { value = value; nan = nan })

-- a point's 24 numbers
abbrev pub listed : ℕ → ℕ → ℕ → Point → ℕ → ℕ → ℕ → ℕ → ℕ → Color → ℕ → ℕ → ℕ → Waveform → List ℕ
listed x y z p flags angle has_t t has_c c has_n n has_w w =
    x ∷ y ∷ z ∷ p.intensity ∷ flags ∷ angle ∷ p.user_data ∷ p.point_source_id ∷
    has_t ∷ t ∷ has_c ∷ c.red ∷ c.green ∷ c.blue ∷ has_n ∷ n ∷
    has_w ∷ w.wave_packet_descriptor_index ∷ w.byte_offset_to_waveform_data ∷ w.waveform_packet_size_in_bytes ∷
    bits_of w.return_point_waveform_location w.nans.return_point_waveform_location ∷
    bits_of w.x_t w.nans.x_t ∷
    bits_of w.y_t w.nans.y_t ∷
    bits_of w.z_t w.nans.z_t ∷ []

unfoldable pub numbers_of : Point → List ℕ
numbers_of p =
    listed (of_z w32 p.x) (of_z w32 p.y) (of_z w32 p.z) p (flags_word p.flags) (angle_word p.scan_angle)
    (has_time p.gps_time) (time_bits_of p.gps_time) (has_color p.color) (color_or p.color) (has_nir p.nir) (nir_or p.nir)
    (has_waveform p.waveform) (waveform_or p.waveform)

-- a read's row, and the numbers, which a refusal leaves
abbrev pub read_row : List ℕ → Result Point Refusal → List ℕ × List ℕ
read_row n (Ok p) = (0 ∷ 0 ∷ 0 ∷ [], numbers_of p)
read_row n (Err r) = (refused_row r 0, n)

-- the place and the count of the extra bytes; two zeros where there are none, as on refusal
unfoldable pub extra_part : Format → List ℕ → List ℕ
extra_part f s = part_row (place_of f ExtraBytes) (length (extra_of f s))

-- a point from 24 numbers; any number but 0 says that a part is there, and of a number too wide the low bits count
unfoldable pub time_from : ℕ → ℕ → Option F64
time_from has bits = cond (eqb has 0) None (Some (f64_of bits))

unfoldable pub color_from : ℕ → ℕ → ℕ → ℕ → Option Color
color_from has r g b =
    cond (eqb has 0) None (Some (record { red = r % 65536; green = g % 65536; blue = b % 65536 }))

unfoldable pub nir_from : ℕ → ℕ → Option ℕ
nir_from has n = cond (eqb has 0) None (Some (n % 65536))

-- the number at place k
abbrev pub nth : List ℕ → ℕ → ℕ
nth n k = get_or n k 0

unfoldable pub maybe_waveform_from : List ℕ → Option Waveform
maybe_waveform_from n =
    cond (eqb (nth n 16) 0) None
    (Some
    (waveform_from (nth n 17 % 256) (nth n 18) (nth n 19 % 4294967296)
    (record {
      location = nth n 20 % 4294967296;
      x_t = nth n 21 % 4294967296;
      y_t = nth n 22 % 4294967296;
      z_t = nth n 23 % 4294967296;
    })))

unfoldable pub point_from : List ℕ → Point
point_from n =
    record {
      x = to_z w32 (nth n 0 % 4294967296);
      y = to_z w32 (nth n 1 % 4294967296);
      z = to_z w32 (nth n 2 % 4294967296);
      intensity = nth n 3 % 65536;
      flags = flags_of (nth n 4 % 4294967296);
      scan_angle = angle_of (nth n 5 % 4294967296);
      user_data = nth n 6 % 256;
      point_source_id = nth n 7 % 65536;
      gps_time = time_from (nth n 8) (nth n 9);
      color = color_from (nth n 10) (nth n 11) (nth n 12) (nth n 13);
      waveform = maybe_waveform_from n;
      nir = nir_from (nth n 14) (nth n 15);
    }
