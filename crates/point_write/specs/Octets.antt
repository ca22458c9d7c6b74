-- The record of a point that its format can hold is a list of bytes.
use Rattle.std.specs.Prelude.{Option, Some, None, Result}
use Rattle.refusal.specs.declared.Refusal.{Refusal}
use Rattle.le.specs.declared.float.F64.{F64}
use Rattle.std.specs.Prelude.{ℕ, Bool, true, false, cond}
use Rattle.std.proofs.Common.{sym, subst, of_z}
use mathlib.Core.List.{List, [], ◌∷◌, ◌++◌}
use Rattle.std.specs.Float.{binary32}
use Rattle.std.specs.Int.{w8, w16, w32}
use mir.ValLaws.{of_z_fits}
use Rattle.le.specs.Le.{bytes, Bytes}
use Rattle.le.specs.Made.{none_made, one_made, both_made, zeros_made, number_made}
use Rattle.le.specs.Real.{pattern_of, f64_bits_of}
use Rattle.fields.specs.Table.{joined}
use Rattle.format.specs.declared.Format.{Format}
use Rattle.format.specs.declared.Field.{Field}
use Rattle.point.specs.declared.Color as color
use Rattle.point.specs.declared.Waveform as waveform
use Rattle.format.specs.declared.Field.TheVariants.{X, Y, Z, Intensity, Flags, UserData, ScanAngle, PointSourceId, GpsTime, Color, Nir, Waveform, ExtraBytes}
use Rattle.format.specs.Fields.{fields_of}
use Rattle.flags.specs.declared.Flags as flags
use Rattle.flags.specs.declared.Flags.TheVariants.{TwoByte, ThreeByte}
use Rattle.flags.specs.declared.ThreeBytes.{ThreeBytes}
use Rattle.flags.specs.Bytes.{two_bytes_of, three_bytes_of}
use Rattle.flags.specs.Laws.{two_kept, three_kept}
use Rattle.angle.specs.declared.ScanAngle as angle
use Rattle.angle.specs.declared.ScanAngle.TheVariants.{Rank, Scaled}
use Rattle.angle.specs.Angle.{to_rank, to_scaled}
use Rattle.point.specs.declared.Point.{Point}
use Rattle.point_bytes.specs.Bytes.{time_bytes, color_bytes, nir_bytes, waveform_bytes, three_list}
use Rattle.point_write.specs.Write.{two_list, field_bytes, record_of}
use Rattle.point_write.specs.Held.{FlagsHeld, AngleHeld, WaveformHeld, Held}

-- of the flags, and of the angle
flags_made : (c : Bool) (f : flags.Flags) → FlagsHeld c f → Bytes (cond c (three_list (three_bytes_of f)) (two_list (two_bytes_of f)))
flags_made true (ThreeByte a b c) h =
    subst (λ (t : ThreeBytes). Bytes (three_list t)) (sym (three_kept a b c))
    (one_made a (b ∷ c ∷ []) h.0 (one_made b (c ∷ []) h.1.0 (one_made c [] h.1.1 none_made)))
flags_made false (TwoByte a b) h =
    subst (λ (t : Result (ℕ × ℕ) Refusal). Bytes (two_list t)) (sym (two_kept a b)) (one_made a (b ∷ []) h.0 (one_made b [] h.1 none_made))
flags_made true (TwoByte a b) h = absurd h
flags_made false (ThreeByte a b c) h = absurd h

angle_made : (c : Bool) (a : angle.ScanAngle) → AngleHeld c a → Bytes (cond c (bytes 2 (of_z w16 (to_scaled a))) (of_z w8 (to_rank a) ∷ []))
angle_made true a h = number_made 2 (of_z w16 (to_scaled a))
angle_made false (Rank r) h = one_made (of_z w8 r) [] (of_z_fits w8 r h).fits none_made
angle_made false (Scaled n) h = absurd h

-- of what a format may lack
time_made : (t : Option F64) → Bytes (time_bytes t)
time_made (Some t) = number_made 8 (f64_bits_of t)
time_made None = zeros_made 8

color_made : (c : Option color.Color) → Bytes (color_bytes c)
color_made (Some c) =
    let blue = bytes 2 c.blue in
    let green = bytes 2 c.green in
    both_made (bytes 2 c.red) (green ++ blue) (number_made 2 c.red) (both_made green blue (number_made 2 c.green) (number_made 2 c.blue))
color_made None = zeros_made 6

nir_made : (n : Option ℕ) → Bytes (nir_bytes n)
nir_made (Some n) = number_made 2 n
nir_made None = zeros_made 2

waveform_made : (c : Bool) (w : Option waveform.Waveform) → WaveformHeld c w → Bytes (waveform_bytes w)
waveform_made true (Some w) h =
    let l = pattern_of binary32 w.return_point_waveform_location w.nans.return_point_waveform_location in
    let x = pattern_of binary32 w.x_t w.nans.x_t in
    let y = pattern_of binary32 w.y_t w.nans.y_t in
    let z = pattern_of binary32 w.z_t w.nans.z_t in
    let from_y = bytes 4 y ++ bytes 4 z in
    let from_x = bytes 4 x ++ from_y in
    let floats = bytes 4 l ++ from_x in
    let from-size = bytes 4 w.waveform_packet_size_in_bytes ++ floats in
    let from_offset = bytes 8 w.byte_offset_to_waveform_data ++ from-size in
    one_made w.wave_packet_descriptor_index from_offset h.index
    (both_made (bytes 8 w.byte_offset_to_waveform_data) from-size (number_made 8 w.byte_offset_to_waveform_data)
    (both_made (bytes 4 w.waveform_packet_size_in_bytes) floats (number_made 4 w.waveform_packet_size_in_bytes)
    (both_made (bytes 4 l) from_x (number_made 4 l)
    (both_made (bytes 4 x) from_y (number_made 4 x) (both_made (bytes 4 y) (bytes 4 z) (number_made 4 y) (number_made 4 z))))))
waveform_made false (Some w) h = absurd h
waveform_made c None h = zeros_made 29

module _ (f : Format) (p : Point) (e : List ℕ) (held : Held f p e) (extra : Bytes e) where
  field_made : (x : Field) → Bytes (field_bytes f p e x)
  field_made X = number_made 4 (of_z w32 p.x)
  field_made Y = number_made 4 (of_z w32 p.y)
  field_made Z = number_made 4 (of_z w32 p.z)
  field_made Intensity = number_made 2 p.intensity
  field_made Flags = flags_made f.is_extended p.flags held.flags
  field_made UserData = one_made p.user_data [] held.user_data none_made
  field_made ScanAngle = angle_made f.is_extended p.scan_angle held.scan_angle
  field_made PointSourceId = number_made 2 p.point_source_id
  field_made GpsTime = time_made p.gps_time
  field_made Color = color_made p.color
  field_made Nir = nir_made p.nir
  field_made Waveform = waveform_made f.has_waveform p.waveform held.waveform
  field_made ExtraBytes = extra

  pub record_made : Bytes (record_of f p e)
  unfolding record_of
  record_made = go (fields_of f)
    where
      go : (xs : List Field) → Bytes (joined (field_bytes f p e) xs)
      go [] = none_made
      go (x ∷ xs) = both_made (field_bytes f p e x) (joined (field_bytes f p e) xs) (field_made x) (go xs)
