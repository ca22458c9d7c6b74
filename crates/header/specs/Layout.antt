-- The public header block as data: LAS 1.4 R15, table "Public Header Block"; document 01, "Record layouts".
use Rattle.std.specs.Prelude.{ℕ, cond, List, [], ◌∷◌, ◌++◌, ltb}
use Rattle.fields.specs.Table.{total}
use Rattle.header.specs.Kinds.{Kind, Number, Text, Real, Numbers, width_of}

pub data Field : Type 0 where
  FileSignature FileSourceId GlobalEncoding Guid VersionMajor VersionMinor SystemIdentifier GeneratingSoftware : Field
  FileCreationDayOfYear FileCreationYear HeaderSize OffsetToPointData NumberOfVariableLengthRecords : Field
  PointDataRecordFormat PointDataRecordLength LegacyNumberOfPointRecords LegacyNumberOfPointsByReturn : Field
  XScaleFactor YScaleFactor ZScaleFactor XOffset YOffset ZOffset MaxX MinX MaxY MinY MaxZ MinZ : Field
  StartOfWaveformDataPacketRecord StartOfFirstEvlr NumberOfEvlrs NumberOfPointRecords NumberOfPointsByReturn : Field

-- each field's first byte, and what stands there
abbrev pub span : Field → ℕ × Kind
span FileSignature = (0, Text 4)
span FileSourceId = (4, Number 2)
span GlobalEncoding = (6, Number 2)
span Guid = (8, Text 16)
span VersionMajor = (24, Number 1)
span VersionMinor = (25, Number 1)
span SystemIdentifier = (26, Text 32)
span GeneratingSoftware = (58, Text 32)
span FileCreationDayOfYear = (90, Number 2)
span FileCreationYear = (92, Number 2)
span HeaderSize = (94, Number 2)
span OffsetToPointData = (96, Number 4)
span NumberOfVariableLengthRecords = (100, Number 4)
span PointDataRecordFormat = (104, Number 1)
span PointDataRecordLength = (105, Number 2)
span LegacyNumberOfPointRecords = (107, Number 4)
span LegacyNumberOfPointsByReturn = (111, Numbers 5 4)
span XScaleFactor = (131, Real)
span YScaleFactor = (139, Real)
span ZScaleFactor = (147, Real)
span XOffset = (155, Real)
span YOffset = (163, Real)
span ZOffset = (171, Real)
span MaxX = (179, Real)
span MinX = (187, Real)
span MaxY = (195, Real)
span MinY = (203, Real)
span MaxZ = (211, Real)
span MinZ = (219, Real)
span StartOfWaveformDataPacketRecord = (227, Number 8)
span StartOfFirstEvlr = (235, Number 8)
span NumberOfEvlrs = (243, Number 4)
span NumberOfPointRecords = (247, Number 8)
span NumberOfPointsByReturn = (255, Numbers 15 8)

abbrev pub place : Field → ℕ
place f = (span f).0

abbrev pub kind : Field → Kind
kind f = (span f).1

abbrev pub width : Field → ℕ
width f = width_of (kind f)

-- what versions 1.0 to 1.2 have, in order: where the file comes from, what it holds, how its points are
-- scaled, and where they lie
abbrev pub origin : List Field
origin =
    FileSignature ∷ FileSourceId ∷ GlobalEncoding ∷ Guid ∷ VersionMajor ∷ VersionMinor ∷ SystemIdentifier ∷
    GeneratingSoftware ∷ []

abbrev pub contents : List Field
contents =
    FileCreationDayOfYear ∷ FileCreationYear ∷ HeaderSize ∷ OffsetToPointData ∷ NumberOfVariableLengthRecords ∷
    PointDataRecordFormat ∷ PointDataRecordLength ∷ LegacyNumberOfPointRecords ∷ LegacyNumberOfPointsByReturn ∷ []

abbrev pub scales : List Field
scales = XScaleFactor ∷ YScaleFactor ∷ ZScaleFactor ∷ XOffset ∷ YOffset ∷ ZOffset ∷ []

abbrev pub bounds : List Field
bounds = MaxX ∷ MinX ∷ MaxY ∷ MinY ∷ MaxZ ∷ MinZ ∷ []

abbrev pub fields12 : List Field
fields12 = origin ++ (contents ++ (scales ++ bounds))

-- "Versions 1.3 and 1.4 have the waveform start"
abbrev pub fields13 : List Field
fields13 = fields12 ++ (StartOfWaveformDataPacketRecord ∷ [])

-- "Only 1.4 has the EVLR start and count, then the point count and 15 counts by return"
abbrev pub large : List Field
large = StartOfFirstEvlr ∷ NumberOfEvlrs ∷ NumberOfPointRecords ∷ NumberOfPointsByReturn ∷ []

abbrev pub fields14 : List Field
fields14 = fields13 ++ large

-- the fields of version 1.minor
abbrev pub fields_of : ℕ → List Field
fields_of minor = cond (ltb minor 3) fields12 (cond (ltb minor 4) fields13 fields14)

-- the bytes of some fields together
abbrev pub size : List Field → ℕ
size fs = total width fs
