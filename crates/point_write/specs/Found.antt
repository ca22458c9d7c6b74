-- Every point that is read is one that its format can hold.
use Rattle.std.specs.Prelude.{ℕ, ◌+◌, ◌≤◌, ◌≡◌, refl, Bool, List, length}
use Rattle.std.proofs.Math.Path.{ap}
use Rattle.std.proofs.Math.Bool.{true, false}
use mir.Syntax.{w8, w16, w32}
use mir.ValLaws.{to_z-Fits}
use Rattle.le.specs.Le.{num, Bytes}
use Rattle.le.specs.Laws.{num-lt}
use Rattle.le.specs.Real.{f32_of, f64_of, f64_bits_of, f64_kept}
use Rattle.format.specs.declared.Format.{Format}
use Rattle.format.specs.declared.Field.TheVariants.{Flags, ScanAngle, PointSourceId, GpsTime, Color, Nir, Waveform, ExtraBytes}
use Rattle.format.specs.Fields.{place_of, record_bytes}
use Rattle.point.specs.Read.{field_of, flags_at, angle_at, time_at, color_at, nir_at, waveform_at, maybe_waveform_at, point_of}
use Rattle.point.specs.Answer.{extra-length}
use Rattle.point_write.specs.Back.{num-fits, f32_back}
use Rattle.point_write.specs.Held.{FlagsHeld, AngleHeld, TimeHeld, ColorHeld, NirHeld, F32Held, WaveformHeld, Held}

module _ (s : List ℕ) (all : Bytes s) where
  flags_found : (c : Bool) (at : ℕ) → FlagsHeld c (flags_at c at s)
  unfolding flags_at
  flags_found true at = (num-lt 1 s at all, (num-lt 1 s (at + 1) all, num-lt 1 s (at + 2) all))
  flags_found false at = (num-lt 1 s at all, num-lt 1 s (at + 1) all)

  angle_found : (c : Bool) (at : ℕ) → AngleHeld c (angle_at c at s)
  unfolding angle_at
  angle_found true at = to_z-Fits w16 (num 2 at s) (num-fits s all w16 2 at refl)
  angle_found false at = to_z-Fits w8 (num 1 at s) (num-fits s all w8 1 at refl)

  time_found : (has : Bool) (at : ℕ) → TimeHeld has (time_at has at s)
  unfolding time_at
  time_found true at =
      let kept : f64_bits_of (f64_of (num 8 at s)) ≡ num 8 at s = f64_kept (num 8 at s) (num-lt 8 s at all) in
      record { fits = rw kept (num-lt 8 s at all); own = ap f64_of kept }
  time_found false at = tt

  color_found : (has : Bool) (at : ℕ) → ColorHeld has (color_at has at s)
  unfolding color_at
  color_found true at = (num-lt 2 s at all, (num-lt 2 s (at + 2) all, num-lt 2 s (at + 4) all))
  color_found false at = tt

  nir_found : (has : Bool) (at : ℕ) → NirHeld has (nir_at has at s)
  unfolding nir_at
  nir_found true at = num-lt 2 s at all
  nir_found false at = tt

  f32_found : (at : ℕ) → F32Held (f32_of (num 4 at s)).value (f32_of (num 4 at s)).nan
  f32_found at = record { fits = rw (f32_back s all at) (num-lt 4 s at all); own = ap f32_of (f32_back s all at) }

  waveform_found : (has : Bool) (at : ℕ) → WaveformHeld has (maybe_waveform_at has at s)
  unfolding maybe_waveform_at waveform_at
  waveform_found true at =
      record {
        index = num-lt 1 s at all;
        offset = num-lt 8 s (at + 1) all;
        size = num-lt 4 s (at + 9) all;
        location = f32_found (at + 13);
        x = f32_found (at + 17);
        y = f32_found (at + 21);
        z = f32_found (at + 25);
      }
  waveform_found false at = tt

  pub point_found : (f : Format) → record_bytes f ≤ length s → Held f (point_of f s) (field_of f ExtraBytes s)
  unfolding point_of
  point_found f h =
      record {
        x = to_z-Fits w32 (num 4 0 s) (num-fits s all w32 4 0 refl);
        y = to_z-Fits w32 (num 4 4 s) (num-fits s all w32 4 4 refl);
        z = to_z-Fits w32 (num 4 8 s) (num-fits s all w32 4 8 refl);
        intensity = num-lt 2 s 12 all;
        flags = flags_found f.is_extended (place_of f Flags);
        scan_angle = angle_found f.is_extended (place_of f ScanAngle);
        user_data = num-lt 1 s 17 all;
        point_source_id = num-lt 2 s (place_of f PointSourceId) all;
        gps_time = time_found f.has_gps_time (place_of f GpsTime);
        color = color_found f.has_color (place_of f Color);
        waveform = waveform_found f.has_waveform (place_of f Waveform);
        nir = nir_found f.has_nir (place_of f Nir);
        extra = extra-length f s h;
      }
