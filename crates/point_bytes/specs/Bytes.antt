-- The bytes of the parts of a point record, field after field as the table has them (document 01, "Record layouts").
use Rattle.std.specs.Prelude.{Option, Some, None}
use Rattle.point.specs.declared.Color.{Color}
use Rattle.le.specs.declared.float.F64.{F64}
use Rattle.point.specs.declared.Waveform.{Waveform}
use Rattle.std.specs.Prelude.{ℕ, List, [], ◌∷◌, ◌++◌, replicate}
use Rattle.std.specs.Float.{binary32}
use Rattle.std.specs.Int.{w8, w16, w32}
use Rattle.std.proofs.Common.{of_z}
use Rattle.le.specs.Le.{bytes}
use Rattle.le.specs.Real.{f64_bits_of, pattern_of}
use Rattle.flags.specs.declared.ThreeBytes.{ThreeBytes}
use Rattle.flags.specs.Bytes.{three_bytes_of}
use Rattle.angle.specs.Angle.{to_rank, to_scaled}
use Rattle.point.specs.declared.Waveform as waveform
use Rattle.point.specs.declared.Point.{Point}

-- "On writing, a missing time, colour, NIR or waveform is zero bits"
abbrev pub time_bytes : Option F64 → List ℕ
time_bytes (Some t) = bytes 8 (f64_bits_of t)
time_bytes None = replicate 8 0

abbrev pub color_bytes : Option Color → List ℕ
color_bytes (Some c) = bytes 2 c.red ++ (bytes 2 c.green ++ bytes 2 c.blue)
color_bytes None = replicate 6 0

abbrev pub nir_bytes : Option ℕ → List ℕ
nir_bytes (Some n) = bytes 2 n
nir_bytes None = replicate 2 0

-- index, offset, size and the bits of four floats
abbrev pub waveform_list : ℕ → ℕ → ℕ → ℕ → ℕ → ℕ → ℕ → List ℕ
waveform_list index offset size location x y z =
    index ∷ (bytes 8 offset ++ (bytes 4 size ++ (bytes 4 location ++ (bytes 4 x ++ (bytes 4 y ++ bytes 4 z)))))

-- each float with the bits of its NaN
abbrev pub waveform_of : waveform.Waveform → List ℕ
waveform_of w =
    waveform_list w.wave_packet_descriptor_index w.byte_offset_to_waveform_data w.waveform_packet_size_in_bytes
    (pattern_of binary32 w.return_point_waveform_location w.nans.return_point_waveform_location)
    (pattern_of binary32 w.x_t w.nans.x_t)
    (pattern_of binary32 w.y_t w.nans.y_t)
    (pattern_of binary32 w.z_t w.nans.z_t)

abbrev pub waveform_bytes : Option Waveform → List ℕ
waveform_bytes (Some w) = waveform_of w
waveform_bytes None = replicate 29 0

-- the three bytes of flags in an extended format
abbrev pub three_list : ThreeBytes → List ℕ
three_list t = t.a ∷ t.b ∷ t.c ∷ []

-- what stands before the time: x, y, z, intensity, the bytes of the flags, those of angle and user data in their order, source id
abbrev pub core : ℕ → ℕ → ℕ → ℕ → List ℕ → List ℕ → ℕ → List ℕ
core x y z intensity flags middle source =
    bytes 4 x ++ (bytes 4 y ++ (bytes 4 z ++ (bytes 2 intensity ++ (flags ++ (middle ++ bytes 2 source)))))

unfoldable pub core_of : Point → List ℕ
core_of p =
    core (of_z w32 p.x) (of_z w32 p.y) (of_z w32 p.z) p.intensity (three_list (three_bytes_of p.flags))
    (p.user_data ∷ bytes 2 (of_z w16 (to_scaled p.scan_angle)))
    p.point_source_id

unfoldable pub legacy_core_of : Point → ℕ → ℕ → List ℕ
legacy_core_of p a b =
    core (of_z w32 p.x) (of_z w32 p.y) (of_z w32 p.z) p.intensity (a ∷ b ∷ [])
    (of_z w8 (to_rank p.scan_angle) ∷ p.user_data ∷ [])
    p.point_source_id
