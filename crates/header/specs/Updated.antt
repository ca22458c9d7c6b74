-- A header after points were added to its file, with laws of it: other counts, other bounds, and every other field as it was.
use Rattle.std.specs.Prelude.{ℕ, ◌+◌, ◌≤◌, ◌≡◌, ◌⊎◌, List, get_or}
use Rattle.std.proofs.Math.Path.{refl}
use Rattle.std.proofs.Common.{inl, inr, arith}
use Rattle.std.proofs.Math.Dec.{eqb}
use Rattle.le.specs.declared.float.F64.{F64}
use Rattle.le.specs.Real.{f64_of}
use Rattle.header.specs.declared.Header.{Header}
use Rattle.header.specs.Kinds.{nums}
use Rattle.header.specs.Layout.{Field, FileSourceId, GlobalEncoding, Guid, VersionMajor, VersionMinor, SystemIdentifier, GeneratingSoftware, FileCreationDayOfYear, FileCreationYear, HeaderSize, OffsetToPointData, NumberOfVariableLengthRecords, PointDataRecordFormat, PointDataRecordLength, LegacyNumberOfPointRecords, LegacyNumberOfPointsByReturn, XScaleFactor, YScaleFactor, ZScaleFactor, XOffset, YOffset, ZOffset, MaxX, StartOfWaveformDataPacketRecord, StartOfFirstEvlr, NumberOfEvlrs, NumberOfPointRecords, NumberOfPointsByReturn, place, width, fields12, size}
use Rattle.header.specs.Header.{number, value, start_of, evlr_of, nans_of, header_of}

-- the bounds are max x, min x, max y, min y, max z, min z, each as its bits
unfoldable pub updated : ℕ → List ℕ → List ℕ → Header → Header
updated points by-return bounds h =
    let bound : ℕ → F64 = λ j. f64_of (get_or bounds j 0) in
    record {
      file_source_id = h.file_source_id;
      global_encoding = h.global_encoding;
      guid = h.guid;
      version = h.version;
      system_identifier = h.system_identifier;
      generating_software = h.generating_software;
      file_creation_day_of_year = h.file_creation_day_of_year;
      file_creation_year = h.file_creation_year;
      header_size = h.header_size;
      offset_to_point_data = h.offset_to_point_data;
      number_of_variable_length_records = h.number_of_variable_length_records;
      point_data_record_format = h.point_data_record_format;
      point_data_record_length = h.point_data_record_length;
      number_of_point_records = points;
      number_of_points_by_return = by-return;
      x_scale_factor = h.x_scale_factor;
      y_scale_factor = h.y_scale_factor;
      z_scale_factor = h.z_scale_factor;
      x_offset = h.x_offset;
      y_offset = h.y_offset;
      z_offset = h.z_offset;
      max_x = (bound 0).value;
      min_x = (bound 1).value;
      max_y = (bound 2).value;
      min_y = (bound 3).value;
      max_z = (bound 4).value;
      min_z = (bound 5).value;
      nans = record {
        x_scale_factor = h.nans.x_scale_factor;
        y_scale_factor = h.nans.y_scale_factor;
        z_scale_factor = h.nans.z_scale_factor;
        x_offset = h.nans.x_offset;
        y_offset = h.nans.y_offset;
        z_offset = h.nans.z_offset;
        max_x = (bound 0).nan;
        min_x = (bound 1).nan;
        max_y = (bound 2).nan;
        min_y = (bound 3).nan;
        max_z = (bound 4).nan;
        min_z = (bound 5).nan;
      };
      start_of_waveform_data_packet_record = h.start_of_waveform_data_packet_record;
      evlr = h.evlr;
      has_large_file = h.has_large_file;
      large_file = h.large_file;
    }

-- w bytes from p on lie beside the counts and the bounds: before the counts, between, or behind the bounds
abbrev pub Beside : ℕ → ℕ → Type 0
Beside p w = (p + w ≤ place LegacyNumberOfPointRecords) ⊎ ((place XScaleFactor ≤ p) × (p + w ≤ place MaxX)) ⊎ (size fields12 ≤ p)

-- where the fields beside them hold the same as in b, the header in a is that in b, with the counts and the bounds in a
module _ (a b : List ℕ) (same : (f : Field) → Beside (place f) (width f) → value f a ≡ value f b) where
  before : (f : Field) → place f + width f ≤ place LegacyNumberOfPointRecords → value f a ≡ value f b
  before f h = same f (inl h)

  between : (f : Field) → place XScaleFactor ≤ place f → place f + width f ≤ place MaxX → value f a ≡ value f b
  between f h l = same f (inr (inl (h, l)))

  after : (f : Field) → size fields12 ≤ place f → value f a ≡ value f b
  after f h = same f (inr (inr h))

  pub header_updated : header_of a ≡ updated (number LegacyNumberOfPointRecords a) (value LegacyNumberOfPointsByReturn a) (nums 8 6 (place MaxX) a) (header_of b)
  unfolding header_of nans_of updated nums
  header_updated = λ i. record {
    file_source_id = before FileSourceId (omega arith) i;
    global_encoding = before GlobalEncoding (omega arith) i;
    guid = before Guid (omega arith) i;
    version = record { major = before VersionMajor (omega arith) i; minor = before VersionMinor (omega arith) i };
    system_identifier = before SystemIdentifier (omega arith) i;
    generating_software = before GeneratingSoftware (omega arith) i;
    file_creation_day_of_year = before FileCreationDayOfYear (omega arith) i;
    file_creation_year = before FileCreationYear (omega arith) i;
    header_size = before HeaderSize (omega arith) i;
    offset_to_point_data = before OffsetToPointData (omega arith) i;
    number_of_variable_length_records = before NumberOfVariableLengthRecords (omega arith) i;
    point_data_record_format = before PointDataRecordFormat (omega arith) i;
    point_data_record_length = before PointDataRecordLength (omega arith) i;
    number_of_point_records = number LegacyNumberOfPointRecords a;
    number_of_points_by_return = value LegacyNumberOfPointsByReturn a;
    x_scale_factor = (between XScaleFactor (omega arith) (omega arith) i).value;
    y_scale_factor = (between YScaleFactor (omega arith) (omega arith) i).value;
    z_scale_factor = (between ZScaleFactor (omega arith) (omega arith) i).value;
    x_offset = (between XOffset (omega arith) (omega arith) i).value;
    y_offset = (between YOffset (omega arith) (omega arith) i).value;
    z_offset = (between ZOffset (omega arith) (omega arith) i).value;
    max_x = (header_of a).max_x;
    min_x = (header_of a).min_x;
    max_y = (header_of a).max_y;
    min_y = (header_of a).min_y;
    max_z = (header_of a).max_z;
    min_z = (header_of a).min_z;
    nans = record {
      x_scale_factor = (between XScaleFactor (omega arith) (omega arith) i).nan;
      y_scale_factor = (between YScaleFactor (omega arith) (omega arith) i).nan;
      z_scale_factor = (between ZScaleFactor (omega arith) (omega arith) i).nan;
      x_offset = (between XOffset (omega arith) (omega arith) i).nan;
      y_offset = (between YOffset (omega arith) (omega arith) i).nan;
      z_offset = (between ZOffset (omega arith) (omega arith) i).nan;
      max_x = (header_of a).nans.max_x;
      min_x = (header_of a).nans.min_x;
      max_y = (header_of a).nans.max_y;
      min_y = (header_of a).nans.min_y;
      max_z = (header_of a).nans.max_z;
      min_z = (header_of a).nans.min_z;
    };
    start_of_waveform_data_packet_record = start_of (after StartOfWaveformDataPacketRecord (omega arith) i);
    evlr = evlr_of (after StartOfFirstEvlr (omega arith) i) (after NumberOfEvlrs (omega arith) i);
    has_large_file = eqb (before VersionMinor (omega arith) i) 4;
    large_file = record { number_of_point_records = after NumberOfPointRecords (omega arith) i; number_of_points_by_return = after NumberOfPointsByReturn (omega arith) i };
  }

-- headers that say the same of their file but for its points
pub record Alike (g h : Header) : Type 0 where
  pub version : g.version ≡ h.version
  pub encoding : g.global_encoding ≡ h.global_encoding
  pub size : g.header_size ≡ h.header_size
  pub offset : g.offset_to_point_data ≡ h.offset_to_point_data
  pub vlrs : g.number_of_variable_length_records ≡ h.number_of_variable_length_records
  pub format : g.point_data_record_format ≡ h.point_data_record_format
  pub each : g.point_data_record_length ≡ h.point_data_record_length
  pub waveform : g.start_of_waveform_data_packet_record ≡ h.start_of_waveform_data_packet_record
  pub evlr : g.evlr ≡ h.evlr
  pub large : g.has_large_file ≡ h.has_large_file

module _ (points : ℕ) (by-return bounds : List ℕ) (h : Header) where
  pub updated_alike : Alike (updated points by-return bounds h) h
  unfolding updated
  updated_alike = record { version = refl; encoding = refl; size = refl; offset = refl; vlrs = refl; format = refl; each = refl; waveform = refl; evlr = refl; large = refl }

  pub updated-points : (updated points by-return bounds h).number_of_point_records ≡ points
  unfolding updated
  updated-points = refl

  pub updated_by_return : (updated points by-return bounds h).number_of_points_by_return ≡ by-return
  unfolding updated
  updated_by_return = refl
