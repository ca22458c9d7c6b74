-- A point with another class, and the record that says so: document 02, No. 13.
use Rattle.std.specs.Prelude.{Some, None}
use Rattle.std.specs.Prelude.{ℕ, ◌+◌, ◌*◌, ◌/◌, ◌%◌, ◌≤◌, ◌<◌, ◌≡◌, Bool, List, length, set, take}
use Rattle.std.proofs.Math.Path.{refl}
use Rattle.std.proofs.Common.{ap, ◌∙◌, inl, inr, arith, get_or-set_same, drop-set-lt}
use Rattle.std.proofs.Math.Bool.{true, false, cond}
use mir.Syntax.{w8, w16, w32}
use mir.Val.{to_z}
use Rattle.le.specs.Le.{num}
use Rattle.le.specs.Laws.{num-one, num-set}
use Rattle.le.specs.Real.{f32_of, f64_of}
use Rattle.format.specs.declared.Format.{Format}
use Rattle.format.specs.declared.Field.TheVariants.{Color, Nir, Waveform, ExtraBytes}
use Rattle.format.specs.Fields.{place_of, record_bytes}
use Rattle.format.specs.Laws.{record_sum}
use Rattle.flags.specs.declared.Flags.TheVariants.{TwoByte, ThreeByte}
use Rattle.flags.specs.Readings.{class_of}
use Rattle.flags.specs.Class.{with_class, has_three}
use Rattle.angle.specs.declared.ScanAngle.TheVariants.{Rank, Scaled}
use Rattle.point.specs.declared.Point.{Point}
use Rattle.point.specs.Read.{field_of, flags_at, angle_at, time_at, color_at, nir_at, waveform_at, maybe_waveform_at, point_of}

-- "changing that one class": the point with another class
unfoldable pub reclassed : ℕ → Point → Point
reclassed c p =
    record {
      x = p.x;
      y = p.y;
      z = p.z;
      intensity = p.intensity;
      flags = with_class c p.flags;
      scan_angle = p.scan_angle;
      user_data = p.user_data;
      point_source_id = p.point_source_id;
      gps_time = p.gps_time;
      color = p.color;
      waveform = p.waveform;
      nir = p.nir;
    }

-- where a record has its class: byte 16 in extended formats, else byte 15
abbrev pub class_place : Bool → ℕ
class_place extended = cond extended 16 15

-- the class in that byte, all of it or its low five bits; and the byte with another class, "this point's three flags in the old class
-- byte" as they are
abbrev pub class_in : Bool → ℕ → ℕ
class_in extended b = cond extended b (b % 32)

abbrev pub classed : Bool → ℕ → ℕ → ℕ
classed extended c b = cond extended c (b / 32 * 32 + c)

-- it stands behind the intensity, and before user data, angle, source id and what follows
behind : (e : Bool) → 15 ≤ class_place e
behind true = omega arith
behind false = omega arith

before_user : (e : Bool) → class_place e < 17
before_user true = omega arith
before_user false = omega arith

before_angle : (e : Bool) → class_place e < cond e 18 16
before_angle true = omega arith
before_angle false = omega arith

before_source : (e : Bool) → class_place e < cond e 20 18
before_source true = omega arith
before_source false = omega arith

before-rest : (e : Bool) → class_place e < cond e 22 20
before-rest true = omega arith
before-rest false = omega arith

module _ (e : Bool) (s : List ℕ) (x : ℕ) where
  abbrev t : List ℕ
  t = set s (class_place e) x

  -- what is read beside it is as it was
  first : (w at : ℕ) → at + w ≤ 15 → num w at t ≡ num w at s
  first w at h = num-set w at s (class_place e) x (inl (omega (arith, behind e)))

  past : (w at : ℕ) → class_place e < at → num w at t ≡ num w at s
  past w at h = num-set w at s (class_place e) x (inr h)

  angle_past : (at : ℕ) → class_place e < at → angle_at e at t ≡ angle_at e at s
  unfolding angle_at
  angle_past at h = λ i. cond e (Scaled (to_z w16 (past 2 at h i))) (Rank (to_z w8 (past 1 at h i)))

  module _ (has : Bool) (at : ℕ) (h : class_place e < at) where
    time_past : time_at has at t ≡ time_at has at s
    unfolding time_at
    time_past = λ i. cond has (Some (f64_of (past 8 at h i))) None

    color_past : color_at has at t ≡ color_at has at s
    unfolding color_at
    color_past = λ i. cond has (Some (record { red = past 2 at h i; green = past 2 (at + 2) (omega arith) i; blue = past 2 (at + 4) (omega arith) i })) None

    nir_past : nir_at has at t ≡ nir_at has at s
    unfolding nir_at
    nir_past = λ i. cond has (Some (past 2 at h i)) None

    wave_past : waveform_at at t ≡ waveform_at at s
    unfolding waveform_at
    wave_past =
        let location = past 4 (at + 13) (omega arith) in
        let x_t = past 4 (at + 17) (omega arith) in
        let y_t = past 4 (at + 21) (omega arith) in
        let z_t = past 4 (at + 25) (omega arith) in
        λ i.
        record {
          wave_packet_descriptor_index = past 1 at h i;
          byte_offset_to_waveform_data = past 8 (at + 1) (omega arith) i;
          waveform_packet_size_in_bytes = past 4 (at + 9) (omega arith) i;
          return_point_waveform_location = (f32_of (location i)).value;
          x_t = (f32_of (x_t i)).value;
          y_t = (f32_of (y_t i)).value;
          z_t = (f32_of (z_t i)).value;
          nans = record {
            return_point_waveform_location = (f32_of (location i)).nan;
            x_t = (f32_of (x_t i)).nan;
            y_t = (f32_of (y_t i)).nan;
            z_t = (f32_of (z_t i)).nan;
          };
        }

    maybe_wave_past : maybe_waveform_at has at t ≡ maybe_waveform_at has at s
    unfolding maybe_waveform_at
    maybe_wave_past = λ i. cond has (Some (wave_past i)) None

-- and the flags are those with the class
there : (s : List ℕ) (at x : ℕ) → at < length s → num 1 at (set s at x) ≡ x
there s at x h = num-one (set s at x) at ∙ get_or-set_same s at x 0 h

flags_classed : (e : Bool) (s : List ℕ) (c : ℕ) → 16 < length s → flags_at e 14 (set s (class_place e) (classed e c (num 1 (class_place e) s))) ≡ with_class c (flags_at e 14 s)
unfolding flags_at with_class
flags_classed true s c h = λ i. ThreeByte (first true s c 1 14 (omega arith) i) (num-set 1 15 s 16 c (inl (omega arith)) i) (there s 16 c h i)
flags_classed false s c h = let b = num 1 15 s / 32 * 32 + c in λ i. TwoByte (first false s b 1 14 (omega arith) i) (there s 15 b (omega arith) i)

-- A record whose class byte has another class is read as the point with that class, and the same extra bytes.
module _ (f : Format) (s : List ℕ) (c : ℕ) where
  abbrev e : Bool
  e = f.is_extended

  abbrev pub record_with : List ℕ
  record_with = set s (class_place e) (classed e c (num 1 (class_place e) s))

  pub point_classed : record_bytes f ≤ length s → point_of f record_with ≡ reclassed c (point_of f s)
  unfolding point_of reclassed
  point_classed room =
      let b = classed e c (num 1 (class_place e) s) in
      let rest = before-rest e in
      λ i.
      record {
        x = to_z w32 (first e s b 4 0 (omega arith) i);
        y = to_z w32 (first e s b 4 4 (omega arith) i);
        z = to_z w32 (first e s b 4 8 (omega arith) i);
        intensity = first e s b 2 12 (omega arith) i;
        flags = flags_classed e s c (omega (arith, record_sum f)) i;
        scan_angle = angle_past e s b (cond e 18 16) (before_angle e) i;
        user_data = past e s b 1 17 (before_user e) i;
        point_source_id = past e s b 2 (cond e 20 18) (before_source e) i;
        gps_time = time_past e s b f.has_gps_time (cond e 22 20) rest i;
        color = color_past e s b f.has_color (place_of f Color) (omega (arith, rest)) i;
        waveform = maybe_wave_past e s b f.has_waveform (place_of f Waveform) (omega (arith, rest)) i;
        nir = nir_past e s b f.has_nir (place_of f Nir) (omega (arith, rest)) i;
      }

  pub extra-classed : field_of f ExtraBytes record_with ≡ field_of f ExtraBytes s
  extra-classed = ap (take f.extra_bytes) (drop-set-lt (place_of f ExtraBytes) s (class_place e) _ (omega (arith, before-rest e)))

-- The flags of a point with another class, and what the record's class byte is to them.
pub flags_with : (c : ℕ) (p : Point) → (reclassed c p).flags ≡ with_class c p.flags
unfolding reclassed
flags_with c p = refl

module _ (f : Format) (s : List ℕ) where
  pub three_flags : has_three (point_of f s).flags ≡ f.is_extended
  unfolding point_of flags_at
  three_flags = go f.is_extended
    where
      go : (e : Bool) → has_three (cond e (ThreeByte (num 1 14 s) (num 1 15 s) (num 1 16 s)) (TwoByte (num 1 14 s) (num 1 15 s))) ≡ e
      go true = refl
      go false = refl

  pub class_read : class_of (point_of f s).flags ≡ class_in f.is_extended (num 1 (class_place f.is_extended) s)
  unfolding point_of flags_at
  class_read = go f.is_extended
    where
      go : (e : Bool) → class_of (cond e (ThreeByte (num 1 14 s) (num 1 15 s) (num 1 16 s)) (TwoByte (num 1 14 s) (num 1 15 s))) ≡ class_in e (num 1 (class_place e) s)
      go true = refl
      go false = refl
