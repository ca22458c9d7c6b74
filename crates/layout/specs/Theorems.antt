-- `fields` and `Layout` walk the one table.
use Rattle.std.specs.Prelude.{Option, Some, None}
use Rattle.std.specs.Prelude.{◌≡◌, refl, Bool, true, false}
use Rattle.std.proofs.Math.Path.{ap}
use Rattle.std.proofs.Common.{◌∙◌}
use Rattle.std.proofs.Math.Bool.{cond}
use mathlib.Core.List.{List, [], ◌∷◌, ◌++◌}
use Rattle.format.specs.declared.Format.{Format}
use Rattle.format.specs.declared.Field.{Field}
use Rattle.format.specs.declared.Field.TheVariants.{X, Y, Z, Intensity, Flags, UserData, ScanAngle, PointSourceId, GpsTime, Color, Nir, Waveform, ExtraBytes}
use Rattle.format.specs.Fields.{only, rest_of, fields_of}
use Rattle.layout.specs.Layout.{slot_of, slots_of}

-- the fields that are there, as the Rust's `flatten` gives them
abbrev pub present : List (Option Field) → List Field
present [] = []
present (Some x ∷ xs) = x ∷ present xs
present (None ∷ xs) = present xs

skip : (b : Bool) (x : Field) (xs : List (Option Field)) → present (slot_of b x ∷ xs) ≡ only b x ++ present xs
unfolding slot_of
skip true x xs = refl
skip false x xs = refl

module _ (f : Format) where
  abbrev from_waveform : List (Option Field)
  from_waveform = slot_of f.has_waveform Waveform ∷ Some ExtraBytes ∷ []

  abbrev from_nir : List (Option Field)
  from_nir = slot_of f.has_nir Nir ∷ from_waveform

  abbrev from_color : List (Option Field)
  from_color = slot_of f.has_color Color ∷ from_nir

  rest : present (slot_of f.has_gps_time GpsTime ∷ from_color) ≡ rest_of f
  rest =
      skip f.has_gps_time GpsTime from_color
      ∙ ap (λ (l : List Field). only f.has_gps_time GpsTime ++ l) (skip f.has_color Color from_nir
      ∙ ap (λ (l : List Field). only f.has_color Color ++ l) (skip f.has_nir Nir from_waveform
      ∙ ap (λ (l : List Field). only f.has_nir Nir ++ l) (skip f.has_waveform Waveform (Some ExtraBytes ∷ []))))

  order : (e : Bool) → cond e UserData ScanAngle ∷ cond e ScanAngle UserData ∷ PointSourceId ∷ rest_of f ≡ cond e (UserData ∷ ScanAngle ∷ []) (ScanAngle ∷ UserData ∷ []) ++ (PointSourceId ∷ rest_of f)
  order true = refl
  order false = refl

  -- what `fields` shows, empty slots left out, is the field table
  pub fields_are : present (slots_of f) ≡ fields_of f
  unfolding slots_of fields_of
  fields_are =
      ap (λ (l : List Field). X ∷ Y ∷ Z ∷ Intensity ∷ Flags ∷ cond f.is_extended UserData ScanAngle ∷ cond f.is_extended ScanAngle UserData ∷ PointSourceId ∷ l) rest
      ∙ ap (λ (l : List Field). X ∷ Y ∷ Z ∷ Intensity ∷ Flags ∷ l) (order f.is_extended)
