-- Document 01, "Refusal numbers", and the refusals that document 02's requests add: the number and the value of each row, and the three numbers that a refusal returns.
use Rattle.std.specs.Prelude.{ℕ, ◌^◌, cond, ltb}
use Rattle.refusal.specs.declared.Refusal.{Refusal}
use Rattle.refusal.specs.declared.Refusal.TheVariants.{Short, Signature, Version, HeaderSize, Format, Compressed, FormatForVersion, RecordLength, PointOffset, Allowance, VlrExtent, PointExtent, EvlrExtent, EvlrStart, ReturnNumber, NumberOfReturns, Class, Channel, Overlap, Nir, Angle, NoRoom, ExtraBytes, VlrDataLength, Attributes, NoPair, Index, NotVersion12, NoRecords, CountNeither, CountTooLarge, OtherVersionOrFormat, EvlrsOrWaveforms, CountsTooLargeForOld, WaveformStart, FieldLacking, NoDescriptors, DescriptorBytes, DataType, AttributeSizes, NameNotFound, NoDirectory, DirectoryShort, KeysNotRising, UnknownLocation, TargetAbsent, TargetBeyond, KeyNotFound, TooManyKeys, TotalTooLarge}
use Rattle.refusal.specs.declared.Row.{Row}

-- the column "no."
abbrev pub number_of : Refusal → ℕ
number_of (Short v) = 1
number_of (Signature v) = 2
number_of (Version v) = 3
number_of (HeaderSize v) = 4
number_of (Format v) = 5
number_of (Compressed v) = 6
number_of (FormatForVersion v) = 7
number_of (RecordLength v) = 8
number_of (PointOffset v) = 9
number_of (Allowance v) = 10
number_of (VlrExtent v) = 11
number_of (PointExtent v) = 12
number_of (EvlrExtent v) = 13
number_of (EvlrStart v) = 14
number_of (ReturnNumber v) = 15
number_of (NumberOfReturns v) = 16
number_of (Class v) = 17
number_of (Channel v) = 18
number_of (Overlap v) = 19
number_of (Nir v) = 20
number_of (Angle v) = 21
number_of (NoRoom v) = 22
number_of (ExtraBytes v) = 23
number_of (VlrDataLength v) = 24
number_of Attributes = 25
number_of (NoPair v) = 26
number_of (Index v) = 27
-- document 02, No. 1: "not 1.2; n is zero; .. count neither; a count over 2^32−1"
number_of NotVersion12 = 28
number_of NoRecords = 29
number_of CountNeither = 30
number_of CountTooLarge = 31
-- No. 3: "other version or format; EVLRs or a waveform start present; going down, effective count or .. by return over 2^32−1, or .. not zero"
number_of OtherVersionOrFormat = 32
number_of EvlrsOrWaveforms = 33
number_of CountsTooLargeForOld = 34
-- No. 11: "start before the end of points or beyond the file"
number_of WaveformStart = 35
-- No. 6: "field lacking"
number_of FieldLacking = 36
-- No. 8: "no such VLR; data not a multiple of 192; a type above 10; sizes adding up to more than the extra bytes; name not found"
number_of NoDescriptors = 37
number_of DescriptorBytes = 38
number_of DataType = 39
number_of AttributeSizes = 40
number_of NameNotFound = 41
-- No. 14: "no directory; directory short; keys not rising; unknown location; target record absent; target beyond its end; key not found"; writing, "over 8,190 keys"
number_of NoDirectory = 42
number_of DirectoryShort = 43
number_of KeysNotRising = 44
number_of UnknownLocation = 45
number_of TargetAbsent = 46
number_of TargetBeyond = 47
number_of KeyNotFound = 48
number_of TooManyKeys = 49
-- No. 9: "a total over 2^64−1"
number_of TotalTooLarge = 50

-- "bytes wanted in all, 0 if over 2^64−1", and so "bytes or entries wanted, 0 likewise"
unfoldable pub wanted_of : ℕ → ℕ
wanted_of n = cond (ltb n (2 ^ 64)) n 0

-- the column "value"
abbrev pub value_of : Refusal → ℕ
value_of (Short v) = v
value_of (Signature v) = v
value_of (Version v) = v
value_of (HeaderSize v) = v
value_of (Format v) = v
value_of (Compressed v) = v
value_of (FormatForVersion v) = v
value_of (RecordLength v) = v
value_of (PointOffset v) = v
value_of (Allowance v) = v
value_of (VlrExtent v) = v
value_of (PointExtent v) = v
value_of (EvlrExtent v) = v
value_of (EvlrStart v) = v
value_of (ReturnNumber v) = v
value_of (NumberOfReturns v) = v
value_of (Class v) = v
value_of (Channel v) = v
value_of (Overlap v) = v
value_of (Nir v) = v
value_of (Angle v) = v
value_of (NoRoom v) = v
value_of (ExtraBytes v) = v
value_of (VlrDataLength v) = v
value_of Attributes = 0
value_of (NoPair v) = v
value_of (Index v) = v
value_of NotVersion12 = 0
value_of NoRecords = 0
value_of CountNeither = 0
value_of CountTooLarge = 0
value_of OtherVersionOrFormat = 0
value_of EvlrsOrWaveforms = 0
value_of CountsTooLargeForOld = 0
value_of WaveformStart = 0
value_of FieldLacking = 0
value_of NoDescriptors = 0
value_of DescriptorBytes = 0
value_of DataType = 0
value_of AttributeSizes = 0
value_of NameNotFound = 0
value_of NoDirectory = 0
value_of DirectoryShort = 0
value_of KeysNotRising = 0
value_of UnknownLocation = 0
value_of TargetAbsent = 0
value_of TargetBeyond = 0
value_of KeyNotFound = 0
value_of TooManyKeys = 0
value_of TotalTooLarge = 0

-- a refusal at a record; the record number is 0 where document 01 names no record
unfoldable pub row_of : Refusal → ℕ → Row
row_of r n = record { number = number_of r; value = value_of r; «record» = n }
