-- What `fields`, `places` and `Layout` show of the field table.
use Rattle.std.specs.Prelude.{Option, Some}
use Rattle.std.specs.Bool.{then_some}
use Rattle.std.specs.Prelude.{ℕ, Bool, cond, List, [], ◌∷◌}
use Rattle.format.specs.declared.Format.{Format}
use Rattle.format.specs.declared.Field.{Field}
use Rattle.format.specs.declared.Field.TheVariants.{X, Y, Z, Intensity, Flags, UserData, ScanAngle, PointSourceId, GpsTime, Color, Nir, Waveform, ExtraBytes}
use Rattle.format.specs.Fields.{place_of, record_bytes}
use Rattle.layout.specs.declared.Places.{Places}
use Rattle.layout.specs.declared.Layout.{Layout}

-- a field that may be missing
unfoldable pub slot_of : Bool → Field → Option Field
slot_of b x = then_some b x

-- the thirteen fields in the standard's order, missing ones as empty slots
unfoldable pub slots_of : Format → List (Option Field)
slots_of f =
    Some X ∷ Some Y ∷ Some Z ∷ Some Intensity ∷ Some Flags ∷
    Some (cond f.is_extended UserData ScanAngle) ∷
    Some (cond f.is_extended ScanAngle UserData) ∷
    Some PointSourceId ∷
    slot_of f.has_gps_time GpsTime ∷
    slot_of f.has_color Color ∷
    slot_of f.has_nir Nir ∷
    slot_of f.has_waveform Waveform ∷
    Some ExtraBytes ∷ []

-- the places of the source id and of the fields after it, from the table
unfoldable pub places_of : Format → Places
places_of f =
    record {
      point_source_id = place_of f PointSourceId;
      gps_time = place_of f GpsTime;
      color = place_of f Color;
      nir = place_of f Nir;
      waveform = place_of f Waveform;
      extra_bytes = place_of f ExtraBytes;
    }

-- a place, where the format has the field
unfoldable pub placed_of : Bool → ℕ → Option ℕ
placed_of b at = then_some b at

unfoldable pub layout_of : Format → Layout
layout_of f =
    record {
      user_data = place_of f UserData;
      scan_angle = place_of f ScanAngle;
      point_source_id = place_of f PointSourceId;
      gps_time = placed_of f.has_gps_time (place_of f GpsTime);
      rgb = placed_of f.has_color (place_of f Color);
      nir = placed_of f.has_nir (place_of f Nir);
      record_len = record_bytes f;
    }
