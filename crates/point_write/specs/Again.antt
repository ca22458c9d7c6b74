-- A field that stands at its place is read as it was.
use Rattle.std.specs.Prelude.{Option, Some, None, Ok}
use Rattle.le.specs.declared.float.F64.{F64}
use Prim.Native.Nat.{ℕ, ◌+◌, ◌<◌, ◌^◌}
use Rattle.std.specs.Prelude.{◌≡◌, Bool, cond, Float, ℤ, take, drop}
use Rattle.std.proofs.Math.Path.{refl, ap}
use Rattle.std.proofs.Common.{◌∙◌, arith}
use Rattle.std.proofs.Math.Bool.{true, false}
use mathlib.Core.List.{List, [], ◌∷◌, ◌++◌}
use Rattle.std.proofs.Math.Nat.{mod-eq_of_lt}
use Rattle.std.specs.Float.Ieee.{binary32}
use mir.Syntax.{Width, w8, w16, w32}
use mir.Val.{SFits, bits, of_z, to_z}
use mir.ValLaws.{of_z_fits, to_z-of_z}
use Rattle.le.specs.Le.{num, bytes}
use Rattle.le.specs.Laws.{Fit, num-bytes, nums-bytes}
use Rattle.le.specs.Real.{pattern_of, f32_of, f64_of, f64_bits_of}
use Rattle.fields.specs.Laws.{every, parts-joined}
use Rattle.format.specs.declared.Format.{Format}
use Rattle.format.specs.declared.Field.{Field}
use Rattle.point.specs.declared.Color as color
use Rattle.point.specs.declared.Waveform as waveform
use Rattle.format.specs.declared.Field.TheVariants.{X, Y, Z, Intensity, Flags, UserData, ScanAngle, PointSourceId, GpsTime, Color, Nir, Waveform, ExtraBytes}
use Rattle.format.specs.Fields.{fields_of, size_of, place_of, has_of}
use Rattle.format.specs.Laws.{fields_follow}
use Rattle.format.specs.Each.{field-of}
use Rattle.flags.specs.declared.Flags as flags
use Rattle.flags.specs.declared.Flags.TheVariants.{TwoByte, ThreeByte}
use Rattle.flags.specs.Bytes.{two_bytes_of, three_bytes_of}
use Rattle.flags.specs.Laws.{two_kept}
use Rattle.angle.specs.declared.ScanAngle as angle
use Rattle.angle.specs.declared.ScanAngle.TheVariants.{Rank, Scaled}
use Rattle.angle.specs.Angle.{to_rank, to_scaled}
use Rattle.point.specs.declared.Point.{Point}
use Rattle.point.specs.Read.{field_of, flags_at, angle_at, time_at, color_at, nir_at, waveform_at, maybe_waveform_at, point_of}
use Rattle.point_bytes.specs.Bytes.{time_bytes, color_bytes, nir_bytes, waveform_bytes, three_list}
use Rattle.point_write.specs.Write.{field_bytes, record_of, two_list}
use Rattle.point_write.specs.Held.{FlagsHeld, AngleHeld, TimeHeld, ColorHeld, NirHeld, WaveformHeld, F32Held, Held, nir_in, shown_in}
use Rattle.point_write.specs.Taken.{Taken, field-length, record_same}

module _ (s : List ℕ) where
  signed_again : (w : Width) (n at : ℕ) (z : ℤ) → 2 ^ bits w ≡ 256 ^ n → SFits w z → take n (drop at s) ≡ bytes n (of_z w z) → to_z w (num n at s) ≡ z
  signed_again w n at z c h e =
      let fits : of_z w z < 256 ^ n = rw c at (of_z_fits w z h).fits in
      ap (to_z w) (num-bytes n at s (of_z w z) fits e) ∙ to_z-of_z w z h

  byte_again : (at a : ℕ) → a < 256 → take 1 (drop at s) ≡ a ∷ [] → num 1 at s ≡ a
  byte_again at a h e = num-bytes 1 at s a h (e ∙ rw (mod-eq_of_lt h))

  -- flags and angle of the format's kind
  flags_again : (c : Bool) (at : ℕ) (fl : flags.Flags) → FlagsHeld c fl → take (cond c 3 2) (drop at s) ≡ cond c (three_list (three_bytes_of fl)) (two_list (two_bytes_of fl)) → flags_at c at s ≡ fl
  unfolding flags_at two_bytes_of three_bytes_of
  flags_again true at (ThreeByte x y z) (hx, (hy, hz)) e =
      let read = nums-bytes 1 x ((1, y) ∷ (1, z) ∷ []) at s hx (hy, (hz, tt)) (e ∙ rw (mod-eq_of_lt hx, mod-eq_of_lt hy, mod-eq_of_lt hz)) in
      rw (read.0, read.1.0, read.1.1.0)
  flags_again false at (TwoByte x y) (hx, hy) e =
      let read = nums-bytes 1 x ((1, y) ∷ []) at s hx (hy, tt) (e ∙ rw (mod-eq_of_lt hx, mod-eq_of_lt hy)) in
      rw (read.0, read.1.0)
  flags_again true at (TwoByte x y) h e = absurd h
  flags_again false at (ThreeByte x y z) h e = absurd h

  angle_again : (c : Bool) (at : ℕ) (a : angle.ScanAngle) → AngleHeld c a → take (cond c 2 1) (drop at s) ≡ cond c (bytes 2 (of_z w16 (to_scaled a))) (of_z w8 (to_rank a) ∷ []) → angle_at c at s ≡ a
  unfolding angle_at
  angle_again true at (Scaled n) h e = ap Scaled (signed_again w16 2 at n refl h e)
  angle_again false at (Rank r) h e = ap Rank (ap (to_z w8) (byte_again at (of_z w8 r) (of_z_fits w8 r h).fits e) ∙ to_z-of_z w8 r h)
  angle_again true at (Rank r) h e = absurd h
  angle_again false at (Scaled n) h e = absurd h

  -- what a format may lack
  time_again : (has : Bool) (at : ℕ) (t : Option F64) → TimeHeld has t → (has ≡ true → take 8 (drop at s) ≡ time_bytes t) → time_at has at s ≡ t
  unfolding time_at
  time_again true at (Some t) h e = ap Some (ap f64_of (num-bytes 8 at s (f64_bits_of t) h.fits (e refl)) ∙ h.own)
  time_again false at None h e = refl
  time_again true at None h e = absurd h
  time_again false at (Some t) h e = absurd h

  color_again : (has : Bool) (at : ℕ) (c : Option color.Color) → ColorHeld has c → (has ≡ true → take 6 (drop at s) ≡ color_bytes c) → color_at has at s ≡ c
  unfolding color_at
  color_again true at (Some c) (red, (green, blue)) e =
      let read = nums-bytes 2 c.red ((2, c.green) ∷ (2, c.blue) ∷ []) at s red (green, (blue, tt)) (e refl) in
      rw (read.0, read.1.0, read.1.1.0)
  color_again false at None h e = refl
  color_again true at None h e = absurd h
  color_again false at (Some c) h e = absurd h

  nir_again : (has : Bool) (at : ℕ) (n : Option ℕ) → NirHeld has n → (has ≡ true → take 2 (drop at s) ≡ nir_bytes n) → nir_at has at s ≡ n
  unfolding nir_at
  nir_again true at (Some n) h e = ap Some (num-bytes 2 at s n h (e refl))
  nir_again false at None h e = refl
  nir_again true at None h e = absurd h
  nir_again false at (Some n) h e = absurd h

  f32_again : {value : Float} {nan : ℕ} (at : ℕ) → F32Held value nan → num 4 at s ≡ pattern_of binary32 value nan → f32_of (num 4 at s) ≡ record { value = value; nan = nan }
  f32_again at h e = ap f32_of e ∙ h.own

  waveform_again : (has : Bool) (at : ℕ) (w : Option waveform.Waveform) → WaveformHeld has w → (has ≡ true → take 29 (drop at s) ≡ waveform_bytes w) → maybe_waveform_at has at s ≡ w
  unfolding maybe_waveform_at waveform_at
  waveform_again true at (Some w) h e =
      let location : ℕ = pattern_of binary32 w.return_point_waveform_location w.nans.return_point_waveform_location in
      let x : ℕ = pattern_of binary32 w.x_t w.nans.x_t in
      let y : ℕ = pattern_of binary32 w.y_t w.nans.y_t in
      let z : ℕ = pattern_of binary32 w.z_t w.nans.z_t in
      let vs : List (ℕ × ℕ) = (8, w.byte_offset_to_waveform_data) ∷ (4, w.waveform_packet_size_in_bytes) ∷ (4, location) ∷ (4, x) ∷ (4, y) ∷ (4, z) ∷ [] in
      let fit : Fit vs = (h.offset, (h.size, (h.location.fits, (h.x.fits, (h.y.fits, (h.z.fits, tt)))))) in
      let read = nums-bytes 1 w.wave_packet_descriptor_index vs at s h.index fit (e refl ∙ rw (mod-eq_of_lt h.index)) in
      let floats = read.1.1.1 in
      rw (read.0, read.1.0, read.1.1.0, f32_again (at + 13) h.location floats.0, f32_again (at + 17) h.x floats.1.0, f32_again (at + 21) h.y floats.1.1.0, f32_again (at + 25) h.z floats.1.1.1.0)
  waveform_again false at None h e = refl
  waveform_again true at None h e = absurd h
  waveform_again false at (Some w) h e = absurd h

-- flags of the format's kind fit
flags_taken : (c : Bool) (fl : flags.Flags) → FlagsHeld c fl → c ≡ false → (a : ℕ) × (b : ℕ) × (two_bytes_of fl ≡ Ok (a, b))
flags_taken c (TwoByte a b) h old = (a, b, two_kept a b)
flags_taken true (ThreeByte a b c) h old = let z : ◌≡◌ {A = ℕ} 0 1 = cc in absurd (omega arith)
flags_taken false (ThreeByte a b c) h old = absurd h

module _ (f : Format) (p : Point) (e : List ℕ) (held : Held f p e) where
  pub held-taken : Taken f p e
  held-taken = record { flags = flags_taken f.is_extended p.flags held.flags; extra = held.extra }

  -- each field that the format has stands at its place in the record
  written_at : (rest : List ℕ) (x : Field) → has_of f x ≡ true → field_of f x (record_of f p e ++ rest) ≡ field_bytes f p e x
  unfolding record_of
  written_at rest =
      field-of f (λ x. field_of f x (record_of f p e ++ rest) ≡ field_bytes f p e x)
      (parts-joined (size_of f) (field_bytes f p e) (place_of f) (record_of f p e ++ rest) (fields_of f) 0 rest (fields_follow f) (every (field-length f p e held-taken) (fields_of f)) refl)

  pub point_again : (rest : List ℕ) → point_of f (record_of f p e ++ rest) ≡ p
  unfolding point_of
  point_again rest =
      let s : List ℕ = record_of f p e ++ rest in
      let at : (x : Field) → has_of f x ≡ true → field_of f x s ≡ field_bytes f p e x = written_at rest in
      λ i.
      record {
        x = signed_again s w32 4 0 p.x refl held.x (at X refl) i;
        y = signed_again s w32 4 4 p.y refl held.y (at Y refl) i;
        z = signed_again s w32 4 8 p.z refl held.z (at Z refl) i;
        intensity = num-bytes 2 12 s p.intensity held.intensity (at Intensity refl) i;
        flags = flags_again s f.is_extended 14 p.flags held.flags (at Flags refl) i;
        scan_angle = angle_again s f.is_extended (place_of f ScanAngle) p.scan_angle held.scan_angle (at ScanAngle refl) i;
        user_data = byte_again s 17 p.user_data held.user_data (at UserData refl) i;
        point_source_id = num-bytes 2 (place_of f PointSourceId) s p.point_source_id held.point_source_id (at PointSourceId refl) i;
        gps_time = time_again s f.has_gps_time (place_of f GpsTime) p.gps_time held.gps_time (at GpsTime) i;
        color = color_again s f.has_color (place_of f Color) p.color held.color (at Color) i;
        waveform = waveform_again s f.has_waveform (place_of f Waveform) p.waveform held.waveform (at Waveform) i;
        nir = nir_again s f.has_nir (place_of f Nir) p.nir held.nir (at Nir) i;
      }

  pub extra_again : (rest : List ℕ) → field_of f ExtraBytes (record_of f p e ++ rest) ≡ e
  extra_again rest = written_at rest ExtraBytes refl

-- a point without near infrared is written as one with 0
nir_shown : (has : Bool) (n : Option ℕ) → nir_bytes n ≡ nir_bytes (nir_in has n)
nir_shown true None = refl
nir_shown true (Some n) = refl
nir_shown false n = refl

pub shown_record : (f : Format) (p : Point) (e : List ℕ) → record_of f p e ≡ record_of f (shown_in f p) e
shown_record f p e = record_same f p (shown_in f p) e same
  where
    same : (x : Field) → has_of f x ≡ true → field_bytes f p e x ≡ field_bytes f (shown_in f p) e x
    same X has = refl
    same Y has = refl
    same Z has = refl
    same Intensity has = refl
    same Flags has = refl
    same UserData has = refl
    same ScanAngle has = refl
    same PointSourceId has = refl
    same GpsTime has = refl
    same Color has = refl
    same Nir has = nir_shown f.has_nir p.nir
    same Waveform has = refl
    same ExtraBytes has = refl
