-- What `places_for` and `Layout::for_format` answer are the table's places.
use Rattle.std.specs.Prelude.{◌≡◌, refl}
use Rattle.format.specs.declared.Format.{Format}
use Rattle.format.specs.declared.Field.TheVariants.{UserData, ScanAngle, PointSourceId, GpsTime, Color, Nir, Waveform, ExtraBytes}
use Rattle.format.specs.Fields.{place_of, record_bytes}
use Rattle.layout.specs.declared.Places.{Places}
use Rattle.layout.specs.declared.Layout.{Layout}
use Rattle.layout.specs.Layout.{places_of, layout_of}

pub record Placed (f : Format) (at : Places) : Type 0 where
  pub source : at.point_source_id ≡ place_of f PointSourceId
  pub time : at.gps_time ≡ place_of f GpsTime
  pub color : at.color ≡ place_of f Color
  pub nir : at.nir ≡ place_of f Nir
  pub waveform : at.waveform ≡ place_of f Waveform
  pub extra : at.extra_bytes ≡ place_of f ExtraBytes

pub placed : (f : Format) {at : Places} → at ≡ places_of f → Placed f at
unfolding places_of
placed f e = rw e (record { source = refl; time = refl; color = refl; nir = refl; waveform = refl; extra = refl })

-- and so are those that `Layout` alone has, with the record's length
pub record Laid (f : Format) (at : Layout) : Type 0 where
  pub user_data : at.user_data ≡ place_of f UserData
  pub angle : at.scan_angle ≡ place_of f ScanAngle
  pub long : at.record_len ≡ record_bytes f

pub laid : (f : Format) {at : Layout} → at ≡ layout_of f → Laid f at
unfolding layout_of
laid f e = rw e (record { user_data = refl; angle = refl; long = refl })
