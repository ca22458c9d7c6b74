-- What a point record says: each field is the number at the table's place for it, in the table's width (document 01, "Record layouts").
use Rattle.std.specs.Prelude.{Option, Some, None, Result, Ok, Err}
use Rattle.refusal.specs.declared.Refusal.{Refusal}
use Rattle.le.specs.declared.float.F64.{F64}
use Rattle.std.specs.Prelude.{ℕ, ◌+◌, Bool, cond, List, [], ltb, pos, length, take, drop}
use Rattle.std.specs.Int.{w8, w16, w32}
use Rattle.std.proofs.Common.{to_z}
use Rattle.refusal.specs.declared.Refusal.TheVariants.{Short}
use Rattle.le.specs.Le.{num}
use Rattle.le.specs.Real.{f32_of, f64_of}
use Rattle.format.specs.declared.Format.{Format}
use Rattle.format.specs.declared.Field.{Field}
use Rattle.format.specs.declared.Field.TheVariants.{X, Y, Z, Intensity, Flags, UserData, ScanAngle, PointSourceId, GpsTime, Color, Nir, Waveform, ExtraBytes}
use Rattle.format.specs.Fields.{size_of, place_of, len_of}
use Rattle.flags.specs.declared.Flags as flags
use Rattle.flags.specs.declared.Flags.TheVariants.{TwoByte, ThreeByte}
use Rattle.angle.specs.declared.ScanAngle as angle
use Rattle.angle.specs.declared.ScanAngle.TheVariants.{Rank, Scaled}
use Rattle.point.specs.declared.Color as color
use Rattle.point.specs.declared.Waveform as waveform
use Rattle.point.specs.declared.Point.{Point}

-- the bytes of a field, and the number in them
abbrev pub field_of : Format → Field → List ℕ → List ℕ
field_of f x s = take (size_of f x) (drop (place_of f x) s)

abbrev pub number_in : Format → Field → List ℕ → ℕ
number_in f x s = num (size_of f x) (place_of f x) s

-- flags at a place: three bytes in extended formats, else two
unfoldable pub flags_at : Bool → ℕ → List ℕ → flags.Flags
flags_at e at s = cond e (ThreeByte (num 1 at s) (num 1 (at + 1) s) (num 1 (at + 2) s)) (TwoByte (num 1 at s) (num 1 (at + 1) s))

-- "old: angle i8 first; extended: user data first, angle i16"
unfoldable pub angle_at : Bool → ℕ → List ℕ → angle.ScanAngle
angle_at e at s = cond e (Scaled (to_z w16 (num 2 at s))) (Rank (to_z w8 (num 1 at s)))

-- "time (f64)"
unfoldable pub time_at : Bool → ℕ → List ℕ → Option F64
time_at has at s = cond has (Some (f64_of (num 8 at s))) None

-- "colour (three u16)"
unfoldable pub color_at : Bool → ℕ → List ℕ → Option color.Color
color_at has at s =
    cond has (Some (record { red = num 2 at s; green = num 2 (at + 2) s; blue = num 2 (at + 4) s })) None

-- "NIR (u16)"; document 02, No. 5: "zero as a value; missing remains for formats without the field"
unfoldable pub nir_at : Bool → ℕ → List ℕ → Option ℕ
nir_at has at s = cond has (Some (num 2 at s)) None

-- "A waveform holds four f32 numbers after an index (u8), an offset (u64) and a size (u32)", 29 bytes; a NaN's bits are kept beside
unfoldable pub waveform_at : ℕ → List ℕ → waveform.Waveform
waveform_at at s =
    record {
      wave_packet_descriptor_index = num 1 at s;
      byte_offset_to_waveform_data = num 8 (at + 1) s;
      waveform_packet_size_in_bytes = num 4 (at + 9) s;
      return_point_waveform_location = (f32_of (num 4 (at + 13) s)).value;
      x_t = (f32_of (num 4 (at + 17) s)).value;
      y_t = (f32_of (num 4 (at + 21) s)).value;
      z_t = (f32_of (num 4 (at + 25) s)).value;
      nans = record {
        return_point_waveform_location = (f32_of (num 4 (at + 13) s)).nan;
        x_t = (f32_of (num 4 (at + 17) s)).nan;
        y_t = (f32_of (num 4 (at + 21) s)).nan;
        z_t = (f32_of (num 4 (at + 25) s)).nan;
      };
    }

unfoldable pub maybe_waveform_at : Bool → ℕ → List ℕ → Option waveform.Waveform
maybe_waveform_at has at s = cond has (Some (waveform_at at s)) None

-- the point in the first bytes of s
unfoldable pub point_of : Format → List ℕ → Point
point_of f s =
    record {
      x = to_z w32 (number_in f X s);
      y = to_z w32 (number_in f Y s);
      z = to_z w32 (number_in f Z s);
      intensity = number_in f Intensity s;
      flags = flags_at f.is_extended (place_of f Flags) s;
      scan_angle = angle_at f.is_extended (place_of f ScanAngle) s;
      user_data = number_in f UserData s;
      point_source_id = number_in f PointSourceId s;
      gps_time = time_at f.has_gps_time (place_of f GpsTime) s;
      color = color_at f.has_color (place_of f Color) s;
      waveform = maybe_waveform_at f.has_waveform (place_of f Waveform) s;
      nir = nir_at f.has_nir (place_of f Nir) s;
    }

-- a record of n bytes, or 1 with the bytes wanted
unfoldable pub sized_of : Format → ℕ → List ℕ → Result Point Refusal
sized_of f n s = cond (ltb (length s) n) (Err (Short n)) (Ok (point_of f s))

-- "Single reads check 8, then 1": by what the format's length answers
abbrev pub read_after : Format → List ℕ → Result ℕ Refusal → Result Point Refusal
read_after f s (Ok n) = sized_of f n s
read_after f s (Err r) = Err r

unfoldable pub read_of : Format → List ℕ → Result Point Refusal
read_of f s = read_after f s (len_of f)

-- the extra bytes: the record's last, and none where the read is refused
abbrev pub extra_after : Format → List ℕ → Result ℕ Refusal → List ℕ
extra_after f s (Ok n) = cond (ltb (length s) n) [] (field_of f ExtraBytes s)
extra_after f s (Err r) = []

unfoldable pub extra_of : Format → List ℕ → List ℕ
extra_of f s = extra_after f s (len_of f)

-- what the Rust's `Default` gives
unfoldable pub no_point : Point
no_point =
    record {
      x = pos 0;
      y = pos 0;
      z = pos 0;
      intensity = 0;
      flags = TwoByte 0 0;
      scan_angle = Rank (pos 0);
      user_data = 0;
      point_source_id = 0;
      gps_time = None;
      color = None;
      waveform = None;
      nir = None;
    }
