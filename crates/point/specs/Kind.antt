-- Fields of a point by the format's kind: X, Y and Z are the stored numbers; new records have three bytes of flags and a scaled angle, old
-- ones two and a rank; a format with time, colours or near infrared shows what is stored, one without near infrared has none.
use Rattle.std.specs.Prelude.{Some, None}
use Rattle.std.specs.Prelude.{ℕ, ◌+◌, ◌≡◌, true, false, List}
use Rattle.std.proofs.Math.Path.{refl}
use Rattle.std.specs.Int.{w8, w16, w32}
use Rattle.std.proofs.Common.{to_z}
use Rattle.le.specs.Le.{num}
use Rattle.le.specs.Real.{f64_of}
use Rattle.format.specs.declared.Format.{Format}
use Rattle.format.specs.declared.Field.TheVariants.{X, Y, Z, GpsTime, Nir}
use Rattle.format.specs.declared.Field.TheVariants as field
use Rattle.format.specs.Fields.{place_of}
use Rattle.flags.specs.declared.Flags.TheVariants.{TwoByte, ThreeByte}
use Rattle.angle.specs.declared.ScanAngle.TheVariants.{Rank, Scaled}
use Rattle.point.specs.declared.Color.{Color}
use Rattle.point.specs.Read.{number_in, flags_at, angle_at, time_at, color_at, nir_at, point_of}

-- the three numbers of the colour field
abbrev pub color_in : Format → List ℕ → Color
color_in f s = let at = place_of f field.Color in record { red = num 2 at s; green = num 2 (at + 2) s; blue = num 2 (at + 4) s }

module _ (f : Format) (s : List ℕ) where
  pub stored_x : (point_of f s).x ≡ to_z w32 (number_in f X s)
  unfolding point_of
  stored_x = refl

  pub stored_y : (point_of f s).y ≡ to_z w32 (number_in f Y s)
  unfolding point_of
  stored_y = refl

  pub stored_z : (point_of f s).z ≡ to_z w32 (number_in f Z s)
  unfolding point_of
  stored_z = refl

  pub new_flags : f.is_extended ≡ true → (point_of f s).flags ≡ ThreeByte (num 1 14 s) (num 1 15 s) (num 1 16 s)
  unfolding point_of flags_at
  new_flags new = rw new

  pub old_flags : f.is_extended ≡ false → (point_of f s).flags ≡ TwoByte (num 1 14 s) (num 1 15 s)
  unfolding point_of flags_at
  old_flags old = rw old

  pub new_angle : f.is_extended ≡ true → (point_of f s).scan_angle ≡ Scaled (to_z w16 (num 2 18 s))
  unfolding point_of angle_at
  new_angle new = rw new

  pub old_angle : f.is_extended ≡ false → (point_of f s).scan_angle ≡ Rank (to_z w8 (num 1 16 s))
  unfolding point_of angle_at
  old_angle old = rw old

  pub stored_time : f.has_gps_time ≡ true → (point_of f s).gps_time ≡ Some (f64_of (number_in f GpsTime s))
  unfolding point_of time_at
  stored_time has = rw has

  pub stored_color : f.has_color ≡ true → (point_of f s).color ≡ Some (color_in f s)
  unfolding point_of color_at
  stored_color has = rw has

  pub stored_nir : f.has_nir ≡ true → (point_of f s).nir ≡ Some (number_in f Nir s)
  unfolding point_of nir_at
  stored_nir has = rw has

  pub no_nir : f.has_nir ≡ false → (point_of f s).nir ≡ None
  unfolding point_of nir_at
  no_nir none = rw none
