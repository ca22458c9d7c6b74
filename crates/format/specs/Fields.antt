-- The fields of a point record in their order, and their sizes: LAS 1.4 R15, point data record formats 0 to 10; document 01, "Order".
use Rattle.std.specs.Prelude.{Result, Ok, Err}
use Rattle.refusal.specs.declared.Refusal.{Refusal}
use Rattle.std.specs.Prelude.{ℕ, ◌+◌, Bool, true, false, cond, List, [], ◌∷◌, ◌++◌, ltb}
use Rattle.refusal.specs.declared.Refusal.TheVariants.{RecordLength}
use Rattle.fields.specs.Table.{total}
use Rattle.format.specs.declared.Format.{Format}
use Rattle.format.specs.declared.Field.{Field}
use Rattle.format.specs.declared.Field.TheVariants.{X, Y, Z, Intensity, Flags, UserData, ScanAngle, PointSourceId, GpsTime, Color, Nir, Waveform, ExtraBytes}

-- a field that a format has or lacks
abbrev pub only : Bool → Field → List Field
only true x = x ∷ []
only false x = []

-- what the format has after the source id
abbrev pub rest_of : Format → List Field
rest_of f =
    only f.has_gps_time GpsTime
    ++ (only f.has_color Color ++ (only f.has_nir Nir ++ (only f.has_waveform Waveform ++ (ExtraBytes ∷ []))))

-- "X, Y, Z, intensity, flags, angle and user data (old: angle first; extended: user data first), source id, then what the format has of time, colour, NIR, waveform, then extra bytes"
unfoldable pub fields_of : Format → List Field
fields_of f =
    X ∷ Y ∷ Z ∷ Intensity ∷ Flags ∷
    (cond f.is_extended (UserData ∷ ScanAngle ∷ []) (ScanAngle ∷ UserData ∷ []) ++ (PointSourceId ∷ rest_of f))

-- how many bytes each takes; flags and angle have one more in extended formats
abbrev pub size_of : Format → Field → ℕ
size_of f X = 4
size_of f Y = 4
size_of f Z = 4
size_of f Intensity = 2
size_of f Flags = cond f.is_extended 3 2
size_of f UserData = 1
size_of f ScanAngle = cond f.is_extended 2 1
size_of f PointSourceId = 2
size_of f GpsTime = 8
size_of f Color = 6
size_of f Nir = 2
size_of f Waveform = 29
size_of f ExtraBytes = f.extra_bytes

-- where each begins: the standard's places, and past the source id the sum of what the format has before it
abbrev pub place_of : Format → Field → ℕ
place_of f X = 0
place_of f Y = 4
place_of f Z = 8
place_of f Intensity = 12
place_of f Flags = 14
place_of f UserData = 17
place_of f ScanAngle = cond f.is_extended 18 16
place_of f PointSourceId = cond f.is_extended 20 18
place_of f GpsTime = cond f.is_extended 22 20
place_of f Color = cond f.is_extended 22 20 + cond f.has_gps_time 8 0
place_of f Nir = cond f.is_extended 22 20 + cond f.has_gps_time 8 0 + cond f.has_color 6 0
place_of f Waveform =
    cond f.is_extended 22 20 + cond f.has_gps_time 8 0 + cond f.has_color 6 0 + cond f.has_nir 2 0
place_of f ExtraBytes =
    cond f.is_extended 22 20 + cond f.has_gps_time 8 0 + cond f.has_color 6 0 + cond f.has_nir 2 0
    + cond f.has_waveform 29 0

-- whether a format has a field
abbrev pub has_of : Format → Field → Bool
has_of f X = true
has_of f Y = true
has_of f Z = true
has_of f Intensity = true
has_of f Flags = true
has_of f UserData = true
has_of f ScanAngle = true
has_of f PointSourceId = true
has_of f GpsTime = f.has_gps_time
has_of f Color = f.has_color
has_of f Nir = f.has_nir
has_of f Waveform = f.has_waveform
has_of f ExtraBytes = true

-- the bytes of a whole record
unfoldable pub record_bytes : Format → ℕ
record_bytes f = total (size_of f) (fields_of f)

-- the length as a u16, or refusal 8 with the true length
unfoldable pub len_of : Format → Result ℕ Refusal
len_of f = cond (ltb 65535 (record_bytes f)) (Err (RecordLength (record_bytes f))) (Ok (record_bytes f))
