-- A layout as 26 numbers: the place and the size of every field of the table, and no bytes where the format lacks it.
use Rattle.std.specs.Prelude.{ℕ, cond, List, [], ◌∷◌}
use Rattle.format.specs.declared.Format.{Format}
use Rattle.format.specs.declared.Field.{Field}
use Rattle.format.specs.declared.Field.TheVariants.{X, Y, Z, Intensity, Flags, UserData, ScanAngle, PointSourceId, GpsTime, Color, Nir, Waveform, ExtraBytes}
use Rattle.format.specs.Fields.{size_of, place_of, has_of}

-- two numbers for each of some fields
abbrev pub numbers_of : Format → List Field → List ℕ
numbers_of f [] = []
numbers_of f (x ∷ xs) = place_of f x ∷ cond (has_of f x) (size_of f x) 0 ∷ numbers_of f xs

unfoldable pub layout_numbers : Format → List ℕ
layout_numbers f =
    numbers_of f
    (X ∷ Y ∷ Z ∷ Intensity ∷ Flags ∷ UserData ∷ ScanAngle ∷ PointSourceId ∷ GpsTime ∷ Color ∷ Nir ∷ Waveform ∷ ExtraBytes ∷ [])
