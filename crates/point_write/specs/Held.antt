-- The points that a format can hold: every number in its range, and everything of the format's kind.
use Rattle.std.specs.Prelude.{Option, Some, None}
use Rattle.point.specs.declared.Color.{Color}
use Rattle.point.specs.declared.Waveform.{Waveform}
use Rattle.std.specs.Prelude.{ℕ, ◌<◌, ◌^◌, ◌≡◌, Bool, true, false, List, Float, length}
use Rattle.std.specs.Float.{binary32}
use Rattle.std.specs.Int.{w8, w16, w32}
use Rattle.std.proofs.Common.{SFits}
use Rattle.le.specs.Real.{pattern_of, f32_of, f64_of, f64_bits_of}
use Rattle.le.specs.declared.float.F64.{F64}
use Rattle.format.specs.declared.Format.{Format}
use Rattle.flags.specs.declared.Flags as flags
use Rattle.flags.specs.declared.Flags.TheVariants.{TwoByte, ThreeByte}
use Rattle.angle.specs.declared.ScanAngle as angle
use Rattle.angle.specs.declared.ScanAngle.TheVariants.{Rank, Scaled}
use Rattle.point.specs.declared.Waveform as waveform
use Rattle.point.specs.declared.Point.{Point}

-- three bytes of flags in extended formats, else two
abbrev pub FlagsHeld : Bool → flags.Flags → Type 0
FlagsHeld true (ThreeByte a b c) = (a < 256) × ((b < 256) × (c < 256))
FlagsHeld false (TwoByte a b) = (a < 256) × (b < 256)
FlagsHeld true (TwoByte a b) = ⊥
FlagsHeld false (ThreeByte a b c) = ⊥

-- a scaled angle in extended formats, else a rank
abbrev pub AngleHeld : Bool → angle.ScanAngle → Type 0
AngleHeld true (Scaled n) = SFits w16 n
AngleHeld false (Rank r) = SFits w8 r
AngleHeld true (Rank r) = ⊥
AngleHeld false (Scaled n) = ⊥

-- a float is that of its own bits: what is kept beside it is its pattern where it is a NaN, and 0 elsewhere
pub record F64Held (x : F64) : Type 0 where
  pub fits : f64_bits_of x < 256 ^ 8
  pub own : f64_of (f64_bits_of x) ≡ x

pub record F32Held (value : Float) (nan : ℕ) : Type 0 where
  pub fits : pattern_of binary32 value nan < 256 ^ 4
  pub own : f32_of (pattern_of binary32 value nan) ≡ record { value = value; nan = nan }

-- what a format may lack is there exactly where the format has it
abbrev pub TimeHeld : Bool → Option F64 → Type 0
TimeHeld true (Some t) = F64Held t
TimeHeld false None = Unit
TimeHeld true None = ⊥
TimeHeld false (Some t) = ⊥

abbrev pub ColorHeld : Bool → Option Color → Type 0
ColorHeld true (Some c) = (c.red < 65536) × ((c.green < 65536) × (c.blue < 65536))
ColorHeld false None = Unit
ColorHeld true None = ⊥
ColorHeld false (Some c) = ⊥

abbrev pub NirHeld : Bool → Option ℕ → Type 0
NirHeld true (Some n) = n < 65536
NirHeld false None = Unit
NirHeld true None = ⊥
NirHeld false (Some n) = ⊥

pub record OneWaveformHeld (w : waveform.Waveform) : Type 0 where
  pub index : w.wave_packet_descriptor_index < 256
  pub offset : w.byte_offset_to_waveform_data < 256 ^ 8
  pub size : w.waveform_packet_size_in_bytes < 256 ^ 4
  pub location : F32Held w.return_point_waveform_location w.nans.return_point_waveform_location
  pub x : F32Held w.x_t w.nans.x_t
  pub y : F32Held w.y_t w.nans.y_t
  pub z : F32Held w.z_t w.nans.z_t

abbrev pub WaveformHeld : Bool → Option Waveform → Type 0
WaveformHeld true (Some w) = OneWaveformHeld w
WaveformHeld false None = Unit
WaveformHeld true None = ⊥
WaveformHeld false (Some w) = ⊥

pub record Held (f : Format) (p : Point) (e : List ℕ) : Type 0 where
  pub x : SFits w32 p.x
  pub y : SFits w32 p.y
  pub z : SFits w32 p.z
  pub intensity : p.intensity < 65536
  pub flags : FlagsHeld f.is_extended p.flags
  pub scan_angle : AngleHeld f.is_extended p.scan_angle
  pub user_data : p.user_data < 256
  pub point_source_id : p.point_source_id < 65536
  pub gps_time : TimeHeld f.has_gps_time p.gps_time
  pub color : ColorHeld f.has_color p.color
  pub waveform : WaveformHeld f.has_waveform p.waveform
  pub nir : NirHeld f.has_nir p.nir
  pub extra : length e ≡ f.extra_bytes

-- "On writing, a missing .. NIR .. is zero bits", which a format that has the field reads as 0: what is read of a point that was written
abbrev pub nir_in : Bool → Option ℕ → Option ℕ
nir_in true None = Some 0
nir_in true (Some n) = Some n
nir_in false n = n

abbrev pub shown_in : Format → Point → Point
shown_in f p =
    record {
      x = p.x;
      y = p.y;
      z = p.z;
      intensity = p.intensity;
      flags = p.flags;
      scan_angle = p.scan_angle;
      user_data = p.user_data;
      point_source_id = p.point_source_id;
      gps_time = p.gps_time;
      color = p.color;
      waveform = p.waveform;
      nir = nir_in f.has_nir p.nir;
    }
