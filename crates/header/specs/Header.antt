-- The header that a block of bytes holds, field by field: document 01, "Record layouts".
use Rattle.std.specs.Prelude.{Option, Some, None, Result, Ok, Err}
use Rattle.refusal.specs.declared.Refusal.{Refusal}
use Rattle.header.specs.declared.Evlr.{Evlr}
use Rattle.std.specs.Prelude.{ℕ, ◌+◌, ◌*◌, ◌^◌, false, cond, List, [], ◌∷◌, eqb, ltb, Float, replicate}
use Rattle.std.specs.Float.Ieee.{of_bits}
use Rattle.std.specs.Float.{binary64}
use Rattle.le.specs.Le.{num}
use Rattle.refusal.specs.declared.Refusal.TheVariants.{PointExtent}
use Rattle.fields.specs.Table as fields
use Rattle.header.specs.declared.Header.{Header}
use Rattle.header.specs.declared.Nans.{Nans}
use Rattle.header.specs.declared.LargeFile.{LargeFile}
use Rattle.header.specs.Kinds.{Value, value_at}
use Rattle.header.specs.Layout.{Field, FileSourceId, GlobalEncoding, Guid, VersionMajor, VersionMinor, SystemIdentifier, GeneratingSoftware, FileCreationDayOfYear, FileCreationYear, HeaderSize, OffsetToPointData, NumberOfVariableLengthRecords, PointDataRecordFormat, PointDataRecordLength, LegacyNumberOfPointRecords, LegacyNumberOfPointsByReturn, XScaleFactor, YScaleFactor, ZScaleFactor, XOffset, YOffset, ZOffset, MaxX, MinX, MaxY, MinY, MaxZ, MinZ, StartOfWaveformDataPacketRecord, StartOfFirstEvlr, NumberOfEvlrs, NumberOfPointRecords, NumberOfPointsByReturn, place, kind, width, fields12, size}

-- A field in a block of bytes: what it holds, and, of any kind, its bytes and the number that they are.
-- What lies past the block's end counts as 0, so a field that the version lacks reads as 0.
abbrev pub value : (f : Field) → List ℕ → Value (kind f)
value f b = value_at (kind f) (place f) b

abbrev pub part : Field → List ℕ → List ℕ
part f b = fields.part (width f) (place f) b

abbrev pub number : Field → List ℕ → ℕ
number f b = num (width f) (place f) b

-- no waveform start is written as 0, and 0 reads as none
unfoldable pub start_of : ℕ → Option ℕ
start_of n = cond (eqb n 0) None (Some n)

-- "An EVLR pair of which either is zero reads as none"
unfoldable pub evlr_of : ℕ → ℕ → Option Evlr
evlr_of a n =
    cond (eqb a 0) None
    (cond (eqb n 0) None (Some (record { start_of_first_evlr = a; number_of_evlrs = n })))

-- what is kept beside the floats
unfoldable pub nans_of : List ℕ → Nans
nans_of b =
    record {
      x_scale_factor = (value XScaleFactor b).nan;
      y_scale_factor = (value YScaleFactor b).nan;
      z_scale_factor = (value ZScaleFactor b).nan;
      x_offset = (value XOffset b).nan;
      y_offset = (value YOffset b).nan;
      z_offset = (value ZOffset b).nan;
      max_x = (value MaxX b).nan;
      min_x = (value MinX b).nan;
      max_y = (value MaxY b).nan;
      min_y = (value MinY b).nan;
      max_z = (value MaxZ b).nan;
      min_z = (value MinZ b).nan;
    }

-- the counts of version 1.4
abbrev pub large_read : List ℕ → LargeFile
large_read b = record { number_of_point_records = value NumberOfPointRecords b; number_of_points_by_return = value NumberOfPointsByReturn b }

-- the header in the standard block of its version
unfoldable pub header_of : List ℕ → Header
header_of b =
    record {
      file_source_id = value FileSourceId b;
      global_encoding = value GlobalEncoding b;
      guid = value Guid b;
      version = record { major = value VersionMajor b; minor = value VersionMinor b };
      system_identifier = value SystemIdentifier b;
      generating_software = value GeneratingSoftware b;
      file_creation_day_of_year = value FileCreationDayOfYear b;
      file_creation_year = value FileCreationYear b;
      header_size = value HeaderSize b;
      offset_to_point_data = value OffsetToPointData b;
      number_of_variable_length_records = value NumberOfVariableLengthRecords b;
      point_data_record_format = value PointDataRecordFormat b;
      point_data_record_length = value PointDataRecordLength b;
      number_of_point_records = value LegacyNumberOfPointRecords b;
      number_of_points_by_return = value LegacyNumberOfPointsByReturn b;
      x_scale_factor = (value XScaleFactor b).value;
      y_scale_factor = (value YScaleFactor b).value;
      z_scale_factor = (value ZScaleFactor b).value;
      x_offset = (value XOffset b).value;
      y_offset = (value YOffset b).value;
      z_offset = (value ZOffset b).value;
      max_x = (value MaxX b).value;
      min_x = (value MinX b).value;
      max_y = (value MaxY b).value;
      min_y = (value MinY b).value;
      max_z = (value MaxZ b).value;
      min_z = (value MinZ b).value;
      nans = nans_of b;
      start_of_waveform_data_packet_record = start_of (value StartOfWaveformDataPacketRecord b);
      evlr = evlr_of (value StartOfFirstEvlr b) (value NumberOfEvlrs b);
      has_large_file = eqb (value VersionMinor b) 4;
      large_file = large_read b;
    }

-- the four bytes `LASF`
abbrev pub lasf : List ℕ
lasf = 76 ∷ 65 ∷ 83 ∷ 70 ∷ []

-- a large file that is missing is written as zeros
abbrev pub no_large : LargeFile
no_large = record { number_of_point_records = 0; number_of_points_by_return = replicate 15 0 }

abbrev pub large_back : Header → LargeFile
large_back h = cond h.has_large_file h.large_file no_large

-- the Rust's default: version 1.2, format 0, no points
abbrev none : Float
none = of_bits binary64 0

unfoldable pub default_header : Header
default_header =
    record {
      file_source_id = 0;
      global_encoding = 0;
      guid = replicate 16 0;
      version = record { major = 1; minor = 2 };
      system_identifier = replicate 32 0;
      generating_software = replicate 32 0;
      file_creation_day_of_year = 0;
      file_creation_year = 0;
      header_size = size fields12;
      offset_to_point_data = size fields12;
      number_of_variable_length_records = 0;
      point_data_record_format = 0;
      point_data_record_length = 20;
      number_of_point_records = 0;
      number_of_points_by_return = replicate 5 0;
      x_scale_factor = none;
      y_scale_factor = none;
      z_scale_factor = none;
      x_offset = none;
      y_offset = none;
      z_offset = none;
      max_x = none;
      min_x = none;
      max_y = none;
      min_y = none;
      max_z = none;
      min_z = none;
      nans = record {
        x_scale_factor = 0;
        y_scale_factor = 0;
        z_scale_factor = 0;
        x_offset = 0;
        y_offset = 0;
        z_offset = 0;
        max_x = 0;
        min_x = 0;
        max_y = 0;
        min_y = 0;
        max_z = 0;
        min_z = 0;
      };
      start_of_waveform_data_packet_record = None;
      evlr = None;
      has_large_file = false;
      large_file = no_large;
    }

-- "Effective count: the legacy count if it isn't zero, else the large count, if any"
unfoldable pub points_of : Header → ℕ
points_of h = cond (eqb h.number_of_point_records 0) (large_back h).number_of_point_records h.number_of_point_records

-- the first byte after the points, by the header's own record length; 12 with the count where that is 2 ^ 64 or more
unfoldable pub end_of : ℕ → ℕ → ℕ → Result ℕ Refusal
end_of offset points each =
    cond (ltb (offset + points * each) (2 ^ 64)) (Ok (offset + points * each)) (Err (PointExtent points))

unfoldable pub end_of_points : Header → Result ℕ Refusal
end_of_points h = end_of h.offset_to_point_data (points_of h) h.point_data_record_length
