-- The bytes of a header, field by field: document 01, "Record layouts".
use Rattle.std.specs.Prelude.{Option, Some, None}
use Rattle.std.specs.Prelude.{ℕ, List}
use Rattle.fields.specs.Table.{joined}
use Rattle.header.specs.declared.Header.{Header}
use Rattle.header.specs.declared.Evlr.{Evlr}
use Rattle.header.specs.Kinds.{Value, bytes_of}
use Rattle.header.specs.Layout.{Field, FileSignature, FileSourceId, GlobalEncoding, Guid, VersionMajor, VersionMinor, SystemIdentifier, GeneratingSoftware, FileCreationDayOfYear, FileCreationYear, HeaderSize, OffsetToPointData, NumberOfVariableLengthRecords, PointDataRecordFormat, PointDataRecordLength, LegacyNumberOfPointRecords, LegacyNumberOfPointsByReturn, XScaleFactor, YScaleFactor, ZScaleFactor, XOffset, YOffset, ZOffset, MaxX, MinX, MaxY, MinY, MaxZ, MinZ, StartOfWaveformDataPacketRecord, StartOfFirstEvlr, NumberOfEvlrs, NumberOfPointRecords, NumberOfPointsByReturn, kind, fields_of}
use Rattle.header.specs.Header.{lasf, large_back}

-- none is written as 0
abbrev pub start_back : Option ℕ → ℕ
start_back (Some n) = n
start_back None = 0

-- "none is written as two zeros"
abbrev pub evlr_back : Option Evlr → Evlr
evlr_back (Some e) = e
evlr_back None = record { start_of_first_evlr = 0; number_of_evlrs = 0 }

-- what a header holds in each field
abbrev pub value_of : Header → (f : Field) → Value (kind f)
value_of h FileSignature = lasf
value_of h FileSourceId = h.file_source_id
value_of h GlobalEncoding = h.global_encoding
value_of h Guid = h.guid
value_of h VersionMajor = h.version.major
value_of h VersionMinor = h.version.minor
value_of h SystemIdentifier = h.system_identifier
value_of h GeneratingSoftware = h.generating_software
value_of h FileCreationDayOfYear = h.file_creation_day_of_year
value_of h FileCreationYear = h.file_creation_year
value_of h HeaderSize = h.header_size
value_of h OffsetToPointData = h.offset_to_point_data
value_of h NumberOfVariableLengthRecords = h.number_of_variable_length_records
value_of h PointDataRecordFormat = h.point_data_record_format
value_of h PointDataRecordLength = h.point_data_record_length
value_of h LegacyNumberOfPointRecords = h.number_of_point_records
value_of h LegacyNumberOfPointsByReturn = h.number_of_points_by_return
value_of h XScaleFactor = record { value = h.x_scale_factor; nan = h.nans.x_scale_factor }
value_of h YScaleFactor = record { value = h.y_scale_factor; nan = h.nans.y_scale_factor }
value_of h ZScaleFactor = record { value = h.z_scale_factor; nan = h.nans.z_scale_factor }
value_of h XOffset = record { value = h.x_offset; nan = h.nans.x_offset }
value_of h YOffset = record { value = h.y_offset; nan = h.nans.y_offset }
value_of h ZOffset = record { value = h.z_offset; nan = h.nans.z_offset }
value_of h MaxX = record { value = h.max_x; nan = h.nans.max_x }
value_of h MinX = record { value = h.min_x; nan = h.nans.min_x }
value_of h MaxY = record { value = h.max_y; nan = h.nans.max_y }
value_of h MinY = record { value = h.min_y; nan = h.nans.min_y }
value_of h MaxZ = record { value = h.max_z; nan = h.nans.max_z }
value_of h MinZ = record { value = h.min_z; nan = h.nans.min_z }
value_of h StartOfWaveformDataPacketRecord = start_back h.start_of_waveform_data_packet_record
value_of h StartOfFirstEvlr = (evlr_back h.evlr).start_of_first_evlr
value_of h NumberOfEvlrs = (evlr_back h.evlr).number_of_evlrs
value_of h NumberOfPointRecords = (large_back h).number_of_point_records
value_of h NumberOfPointsByReturn = (large_back h).number_of_points_by_return

-- the bytes of one field
abbrev pub field_bytes : Header → Field → List ℕ
field_bytes h f = bytes_of (kind f) (value_of h f)

-- the standard block of the header's version
unfoldable pub block : Header → List ℕ
block h = joined (field_bytes h) (fields_of h.version.minor)
