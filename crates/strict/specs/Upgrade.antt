-- Document 01, "Strict conversion": "Upgrade has none of these record checks: class kept, overlap set exactly for class 12,
-- channel and NIR 0, the other flags moved."
use Rattle.std.specs.Prelude.{None, ℕ, ◌≡◌, refl, eqb, ℤ}
use Rattle.flags.specs.declared.Flags.{Flags}
use Rattle.flags.specs.declared.Flags.TheVariants.{TwoByte, ThreeByte}
use Rattle.flags.specs.Readings.{return_number_of, number_of_returns_of, direction_bit, edge_of, class_of, synthetic_of, key_point_of, withheld_of}
pub use Rattle.flags.specs.Bytes.{new_first, new_second}
use Rattle.angle.specs.declared.ScanAngle.TheVariants.{Scaled}
use Rattle.angle.specs.Angle.{to_scaled}
use Rattle.point.specs.declared.Point.{Point}

-- "class kept, overlap set exactly for class 12, channel .. 0, the other flags moved"; extended flags as they are
unfoldable pub upgraded_flags : Flags → Flags
upgraded_flags (TwoByte a b) =
    let f = TwoByte a b in
    ThreeByte (new_first (return_number_of f) (number_of_returns_of f))
    (new_second (synthetic_of f) (key_point_of f) (withheld_of f) (eqb (class_of f) 12) 0 (direction_bit f) (edge_of f))
    (class_of f)
upgraded_flags (ThreeByte a b c) = ThreeByte a b c

-- a point with old flags made new, with the scaled angle n: "NIR 0", which is none, and all else kept
abbrev pub upgraded_with : Point → ℕ → ℕ → ℤ → Point
upgraded_with p a b n =
    record {
      x = p.x;
      y = p.y;
      z = p.z;
      intensity = p.intensity;
      flags = upgraded_flags (TwoByte a b);
      scan_angle = Scaled n;
      user_data = p.user_data;
      point_source_id = p.point_source_id;
      gps_time = p.gps_time;
      color = p.color;
      waveform = p.waveform;
      nir = None;
    }

-- with its own angle scaled
unfoldable pub upgraded_old : Point → ℕ → ℕ → Point
upgraded_old p a b = upgraded_with p a b (to_scaled p.scan_angle)

-- by its flags: a point that has extended ones already is new as it is
abbrev pub upgraded_by : Point → Flags → Point
upgraded_by p (TwoByte a b) = upgraded_old p a b
upgraded_by p (ThreeByte a b c) = p

unfoldable pub upgraded_of : Point → Point
upgraded_of p = upgraded_by p p.flags

-- the same with the scaled angle n
abbrev pub upgraded_to_by : Point → ℤ → Flags → Point
upgraded_to_by p n (TwoByte a b) = upgraded_with p a b n
upgraded_to_by p n (ThreeByte a b c) = p

unfoldable pub upgraded_to : Point → ℤ → Point
upgraded_to p n = upgraded_to_by p n p.flags

-- which is the upgraded point where n is its own
pub to_its_own : (p : Point) → upgraded_to p (to_scaled p.scan_angle) ≡ upgraded_of p
unfolding upgraded_to upgraded_of upgraded_old
to_its_own p = go p.flags
  where
    go : (f : Flags) → upgraded_to_by p (to_scaled p.scan_angle) f ≡ upgraded_by p f
    go (TwoByte a b) = refl
    go (ThreeByte a b c) = refl
