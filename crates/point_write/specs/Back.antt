-- Field by field, what the reader finds is put back by the writer as the bytes it was found in.
use Rattle.std.specs.Prelude.{ℕ, ◌+◌, ◌%◌, ◌≤◌, ◌^◌, ◌≡◌, Bool, cond, List, [], ◌∷◌, take, drop}
use Rattle.std.proofs.Math.Path.{refl}
use Rattle.std.proofs.Common.{sym, ◌∙◌, arith}
use Rattle.std.proofs.Math.Bool.{true, false}
use Rattle.std.specs.Float.{binary32}
use Rattle.std.proofs.Math.ListN.{length}
use mir.Syntax.{Width, w8, w16, w32}
use mir.Val.{Fits, bits, of_z, to_z}
use mir.ValLaws.{of_z-to_z}
use Rattle.le.specs.Le.{num, bytes, Bytes}
use Rattle.le.specs.Laws.{num-lt, bytes-num, span-num}
use Rattle.le.specs.Real.{pattern_of, f32_of, f32_kept, f32_bits_is, f64_kept}
use Rattle.fields.specs.Laws.{joined-parts}
use Rattle.format.specs.declared.Format.{Format}
use Rattle.format.specs.declared.Field.{Field}
use Rattle.format.specs.declared.Field.TheVariants.{X, Y, Z, Intensity, Flags, UserData, ScanAngle, PointSourceId, GpsTime, Color, Nir, Waveform, ExtraBytes}
use Rattle.format.specs.Fields.{fields_of, size_of, place_of, has_of, record_bytes}
use Rattle.format.specs.Laws.{fields_follow}
use Rattle.format.specs.Each.{each-field}
use Rattle.flags.specs.Bytes.{two_bytes_of, three_bytes_of}
use Rattle.angle.specs.Angle.{to_rank, to_scaled}
use Rattle.point.specs.Read.{field_of, flags_at, angle_at, time_at, color_at, nir_at, waveform_at, maybe_waveform_at, point_of}
use Rattle.point_bytes.specs.Bytes.{time_bytes, color_bytes, nir_bytes, waveform_bytes, three_list}
use Rattle.point_write.specs.Write.{two_list, field_bytes, record_of}

module _ (s : List ℕ) (all : Bytes s) where
  -- a number of n bytes is one of as many bits
  pub num-fits : (w : Width) (n at : ℕ) → 256 ^ n ≡ 2 ^ bits w → Fits w (num n at s)
  num-fits w n at e = record { fits = rw e at (num-lt n s at all) }

  signed_back : (w : Width) (n at : ℕ) → 256 ^ n ≡ 2 ^ bits w → at + n ≤ length s → bytes n (of_z w (to_z w (num n at s))) ≡ take n (drop at s)
  signed_back w n at e h = rw (of_z-to_z w (num n at s) (num-fits w n at e)) (bytes-num n at s all h)

  -- one byte is its own bytes
  byte_mod : (at : ℕ) → num 1 at s % 256 ≡ num 1 at s
  byte_mod at = omega (arith, num-lt 1 s at all)

  byte_back : (at : ℕ) → at + 1 ≤ length s → num 1 at s ∷ [] ≡ take 1 (drop at s)
  byte_back at h = simp byte_mod at (bytes-num 1 at s all h)

  flags_back : (c : Bool) (at : ℕ) → at + cond c 3 2 ≤ length s → cond c (three_list (three_bytes_of (flags_at c at s))) (two_list (two_bytes_of (flags_at c at s))) ≡ take (cond c 3 2) (drop at s)
  unfolding flags_at three_bytes_of two_bytes_of
  flags_back true at h = simp byte_mod at (span-num 1 (1 ∷ 1 ∷ []) at s all h)
  flags_back false at h = simp byte_mod at (span-num 1 (1 ∷ []) at s all h)

  angle_back : (c : Bool) (at : ℕ) → at + cond c 2 1 ≤ length s → cond c (bytes 2 (of_z w16 (to_scaled (angle_at c at s)))) (of_z w8 (to_rank (angle_at c at s)) ∷ []) ≡ take (cond c 2 1) (drop at s)
  unfolding angle_at
  angle_back true at h = signed_back w16 2 at refl h
  angle_back false at h = rw (of_z-to_z w8 (num 1 at s) (num-fits w8 1 at refl)) (byte_back at h)

  -- what a format may lack, where it has it
  pub time_back : (has : Bool) (at : ℕ) → has ≡ true → at + 8 ≤ length s → time_bytes (time_at has at s) ≡ take 8 (drop at s)
  unfolding time_at
  time_back has at e h = rw (e, f64_kept (num 8 at s) (num-lt 8 s at all)) (bytes-num 8 at s all h)

  pub color_back : (has : Bool) (at : ℕ) → has ≡ true → at + 6 ≤ length s → color_bytes (color_at has at s) ≡ take 6 (drop at s)
  unfolding color_at
  color_back has at e h = rw e (span-num 2 (2 ∷ 2 ∷ []) at s all h)

  nir_back : (has : Bool) (at : ℕ) → has ≡ true → at + 2 ≤ length s → nir_bytes (nir_at has at s) ≡ take 2 (drop at s)
  unfolding nir_at
  nir_back has at e h = rw e (bytes-num 2 at s all h)

  pub f32_back : (at : ℕ) → pattern_of binary32 (f32_of (num 4 at s)).value (f32_of (num 4 at s)).nan ≡ num 4 at s
  f32_back at = sym (f32_bits_is (f32_of (num 4 at s))) ∙ f32_kept (num 4 at s) (num-lt 4 s at all)

  pub waveform_back : (has : Bool) (at : ℕ) → has ≡ true → at + 29 ≤ length s → waveform_bytes (maybe_waveform_at has at s) ≡ take 29 (drop at s)
  unfolding maybe_waveform_at waveform_at
  waveform_back has at e h = rw e (simp f32_back (rw (byte_mod at) at (span-num 1 (8 ∷ 4 ∷ 4 ∷ 4 ∷ 4 ∷ 4 ∷ []) at s all h)))

module _ (s : List ℕ) (all : Bytes s) (f : Format) where
  -- the bytes of a field of the point read
  abbrev put_back : Field → List ℕ
  put_back x = field_bytes f (point_of f s) (field_of f ExtraBytes s) x

  field_back : (x : Field) → has_of f x ≡ true → place_of f x + size_of f x ≤ length s → put_back x ≡ field_of f x s
  unfolding point_of
  field_back X has = signed_back s all w32 4 0 refl
  field_back Y has = signed_back s all w32 4 4 refl
  field_back Z has = signed_back s all w32 4 8 refl
  field_back Intensity has = bytes-num 2 12 s all
  field_back Flags has = flags_back s all f.is_extended 14
  field_back UserData has = byte_back s all 17
  field_back ScanAngle has = angle_back s all f.is_extended (place_of f ScanAngle)
  field_back PointSourceId has = bytes-num 2 (place_of f PointSourceId) s all
  field_back GpsTime has = time_back s all f.has_gps_time (place_of f GpsTime) has
  field_back Color has = color_back s all f.has_color (place_of f Color) has
  field_back Nir has = nir_back s all f.has_nir (place_of f Nir) has
  field_back Waveform has = waveform_back s all f.has_waveform (place_of f Waveform) has
  field_back ExtraBytes has = λ h. refl

  pub record_back : record_bytes f ≤ length s → record_of f (point_of f s) (field_of f ExtraBytes s) ≡ take (record_bytes f) s
  unfolding record_of record_bytes
  record_back h =
      joined-parts (size_of f) put_back (place_of f) s (fields_of f) 0 (fields_follow f) (omega arith)
      (each-field f (λ x. place_of f x + size_of f x ≤ length s → put_back x ≡ field_of f x s) field_back)
