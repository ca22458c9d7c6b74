-- The bytes of a point record, its parts in the order of the table (document 01, "Record layouts"), and what writing one answers and leaves.
use Rattle.std.specs.Prelude.{Result, Ok, Err}
use Rattle.refusal.specs.declared.Refusal.{Refusal}
use Rattle.std.specs.Prelude.{ℕ, cond, List, [], ◌∷◌, ◌++◌, ltb, eqb, length, drop}
use Rattle.std.specs.Int.{w8, w16, w32}
use Rattle.std.proofs.Common.{of_z}
use Rattle.refusal.specs.declared.Refusal.TheVariants as refusal
use Rattle.le.specs.Le.{bytes}
use Rattle.fields.specs.Table.{joined}
use Rattle.format.specs.declared.Format.{Format}
use Rattle.format.specs.declared.Field.{Field}
use Rattle.format.specs.declared.Field.TheVariants.{X, Y, Z, Intensity, Flags, UserData, ScanAngle, PointSourceId, GpsTime, Color, Nir, Waveform, ExtraBytes}
use Rattle.format.specs.Fields.{fields_of, len_of}
use Rattle.flags.specs.Bytes.{two_bytes_of, three_bytes_of}
use Rattle.angle.specs.Angle.{to_rank, to_scaled}
use Rattle.point.specs.declared.Point.{Point}
use Rattle.point_bytes.specs.Bytes.{time_bytes, color_bytes, nir_bytes, waveform_bytes, three_list}

-- the two bytes of flags in a legacy format, where they fit
abbrev pub two_list : Result (ℕ × ℕ) Refusal → List ℕ
two_list (Ok (a, b)) = a ∷ b ∷ []
two_list (Err r) = []

-- the bytes of one field of a point with these extra bytes
abbrev pub field_bytes : Format → Point → List ℕ → Field → List ℕ
field_bytes f p e X = bytes 4 (of_z w32 p.x)
field_bytes f p e Y = bytes 4 (of_z w32 p.y)
field_bytes f p e Z = bytes 4 (of_z w32 p.z)
field_bytes f p e Intensity = bytes 2 p.intensity
field_bytes f p e Flags = cond f.is_extended (three_list (three_bytes_of p.flags)) (two_list (two_bytes_of p.flags))
field_bytes f p e UserData = p.user_data ∷ []
field_bytes f p e ScanAngle =
    cond f.is_extended (bytes 2 (of_z w16 (to_scaled p.scan_angle))) (of_z w8 (to_rank p.scan_angle) ∷ [])
field_bytes f p e PointSourceId = bytes 2 p.point_source_id
field_bytes f p e GpsTime = time_bytes p.gps_time
field_bytes f p e Color = color_bytes p.color
field_bytes f p e Nir = nir_bytes p.nir
field_bytes f p e Waveform = waveform_bytes p.waveform
field_bytes f p e ExtraBytes = e

-- the whole record: the fields of the format in the table's order
unfoldable pub record_of : Format → Point → List ℕ → List ℕ
record_of f p e = joined (field_bytes f p e) (fields_of f)

-- a record of n bytes at the front of d; in legacy formats only where the flags fit
abbrev pub flagged_of : Format → Point → List ℕ → ℕ → List ℕ → Result (ℕ × ℕ) Refusal → Result ℕ Refusal × List ℕ
flagged_of f p e n d (Ok (a, b)) = (Ok n, record_of f p e ++ drop n d)
flagged_of f p e n d (Err r) = (Err r, d)

-- "8 and 23 (point) .., then 22, then 15 to 18": after 8
unfoldable pub sized_of : Format → Point → List ℕ → ℕ → List ℕ → Result ℕ Refusal × List ℕ
sized_of f p e n d =
    cond (eqb (length e) f.extra_bytes)
    (cond (ltb (length d) n) (Err (refusal.NoRoom n), d)
    (cond f.is_extended (Ok n, record_of f p e ++ drop n d) (flagged_of f p e n d (two_bytes_of p.flags))))
    (Err (refusal.ExtraBytes f.extra_bytes), d)

abbrev pub written_after : Format → Point → List ℕ → List ℕ → Result ℕ Refusal → Result ℕ Refusal × List ℕ
written_after f p e d (Ok n) = sized_of f p e n d
written_after f p e d (Err r) = (Err r, d)

unfoldable pub written_of : Format → Point → List ℕ → List ℕ → Result ℕ Refusal × List ℕ
written_of f p e d = written_after f p e d (len_of f)
