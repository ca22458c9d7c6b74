use mathlib.Core.Path.{◌≡◌, sym, ap}
use Rattle.refusal.specs.declared.Refusal.{Refusal}
use Rattle.refusal.specs.Table.{number_of}
use Rattle.refusal.proofs.Refusal.number.Goals as goal

-- `Refusal::number`: in each arm the match tells which row it is, and the definition gives that row's number.
row : {r k : Refusal} → r ≡ k → number_of k ≡ number_of r
row e = sym (ap number_of e)

pub returns-in-Short : goal.returns-in-Short
returns-in-Short c = row c.in-Short.is

pub returns-in-Signature : goal.returns-in-Signature
returns-in-Signature c = row c.in-Signature.is

pub returns-in-Version : goal.returns-in-Version
returns-in-Version c = row c.in-Version.is

pub returns-in-HeaderSize : goal.returns-in-HeaderSize
returns-in-HeaderSize c = row c.in-HeaderSize.is

pub returns-in-Format : goal.returns-in-Format
returns-in-Format c = row c.in-Format.is

pub returns-in-Compressed : goal.returns-in-Compressed
returns-in-Compressed c = row c.in-Compressed.is

pub returns-in-FormatForVersion : goal.returns-in-FormatForVersion
returns-in-FormatForVersion c = row c.in-FormatForVersion.is

pub returns-in-RecordLength : goal.returns-in-RecordLength
returns-in-RecordLength c = row c.in-RecordLength.is

pub returns-in-PointOffset : goal.returns-in-PointOffset
returns-in-PointOffset c = row c.in-PointOffset.is

pub returns-in-Allowance : goal.returns-in-Allowance
returns-in-Allowance c = row c.in-Allowance.is

pub returns-in-VlrExtent : goal.returns-in-VlrExtent
returns-in-VlrExtent c = row c.in-VlrExtent.is

pub returns-in-PointExtent : goal.returns-in-PointExtent
returns-in-PointExtent c = row c.in-PointExtent.is

pub returns-in-EvlrExtent : goal.returns-in-EvlrExtent
returns-in-EvlrExtent c = row c.in-EvlrExtent.is

pub returns-in-EvlrStart : goal.returns-in-EvlrStart
returns-in-EvlrStart c = row c.in-EvlrStart.is

pub returns-in-ReturnNumber : goal.returns-in-ReturnNumber
returns-in-ReturnNumber c = row c.in-ReturnNumber.is

pub returns-in-NumberOfReturns : goal.returns-in-NumberOfReturns
returns-in-NumberOfReturns c = row c.in-NumberOfReturns.is

pub returns-in-Class : goal.returns-in-Class
returns-in-Class c = row c.in-Class.is

pub returns-in-Channel : goal.returns-in-Channel
returns-in-Channel c = row c.in-Channel.is

pub returns-in-Overlap : goal.returns-in-Overlap
returns-in-Overlap c = row c.in-Overlap.is

pub returns-in-Nir : goal.returns-in-Nir
returns-in-Nir c = row c.in-Nir.is

pub returns-in-Angle : goal.returns-in-Angle
returns-in-Angle c = row c.in-Angle.is

pub returns-in-NoRoom : goal.returns-in-NoRoom
returns-in-NoRoom c = row c.in-NoRoom.is

pub returns-in-ExtraBytes : goal.returns-in-ExtraBytes
returns-in-ExtraBytes c = row c.in-ExtraBytes.is

pub returns-in-VlrDataLength : goal.returns-in-VlrDataLength
returns-in-VlrDataLength c = row c.in-VlrDataLength.is

pub returns-in-Attributes : goal.returns-in-Attributes
returns-in-Attributes c = row c.in-Attributes.is

pub returns-in-NoPair : goal.returns-in-NoPair
returns-in-NoPair c = row c.in-NoPair.is

pub returns-in-Index : goal.returns-in-Index
returns-in-Index c = row c.in-Index.is

pub returns-in-NotVersion12 : goal.returns-in-NotVersion12
returns-in-NotVersion12 c = row c.in-NotVersion12.is

pub returns-in-NoRecords : goal.returns-in-NoRecords
returns-in-NoRecords c = row c.in-NoRecords.is

pub returns-in-CountNeither : goal.returns-in-CountNeither
returns-in-CountNeither c = row c.in-CountNeither.is

pub returns-in-CountTooLarge : goal.returns-in-CountTooLarge
returns-in-CountTooLarge c = row c.in-CountTooLarge.is

pub returns-in-OtherVersionOrFormat : goal.returns-in-OtherVersionOrFormat
returns-in-OtherVersionOrFormat c = row c.in-OtherVersionOrFormat.is

pub returns-in-EvlrsOrWaveforms : goal.returns-in-EvlrsOrWaveforms
returns-in-EvlrsOrWaveforms c = row c.in-EvlrsOrWaveforms.is

pub returns-in-CountsTooLargeForOld : goal.returns-in-CountsTooLargeForOld
returns-in-CountsTooLargeForOld c = row c.in-CountsTooLargeForOld.is

pub returns-in-WaveformStart : goal.returns-in-WaveformStart
returns-in-WaveformStart c = row c.in-WaveformStart.is

pub returns-in-FieldLacking : goal.returns-in-FieldLacking
returns-in-FieldLacking c = row c.in-FieldLacking.is

pub returns-in-NoDescriptors : goal.returns-in-NoDescriptors
returns-in-NoDescriptors c = row c.in-NoDescriptors.is

pub returns-in-DescriptorBytes : goal.returns-in-DescriptorBytes
returns-in-DescriptorBytes c = row c.in-DescriptorBytes.is

pub returns-in-DataType : goal.returns-in-DataType
returns-in-DataType c = row c.in-DataType.is

pub returns-in-AttributeSizes : goal.returns-in-AttributeSizes
returns-in-AttributeSizes c = row c.in-AttributeSizes.is

pub returns-in-NameNotFound : goal.returns-in-NameNotFound
returns-in-NameNotFound c = row c.in-NameNotFound.is

pub returns-in-NoDirectory : goal.returns-in-NoDirectory
returns-in-NoDirectory c = row c.in-NoDirectory.is

pub returns-in-DirectoryShort : goal.returns-in-DirectoryShort
returns-in-DirectoryShort c = row c.in-DirectoryShort.is

pub returns-in-KeysNotRising : goal.returns-in-KeysNotRising
returns-in-KeysNotRising c = row c.in-KeysNotRising.is

pub returns-in-UnknownLocation : goal.returns-in-UnknownLocation
returns-in-UnknownLocation c = row c.in-UnknownLocation.is

pub returns-in-TargetAbsent : goal.returns-in-TargetAbsent
returns-in-TargetAbsent c = row c.in-TargetAbsent.is

pub returns-in-TargetBeyond : goal.returns-in-TargetBeyond
returns-in-TargetBeyond c = row c.in-TargetBeyond.is

pub returns-in-KeyNotFound : goal.returns-in-KeyNotFound
returns-in-KeyNotFound c = row c.in-KeyNotFound.is

pub returns-in-TooManyKeys : goal.returns-in-TooManyKeys
returns-in-TooManyKeys c = row c.in-TooManyKeys.is

pub returns-in-TotalTooLarge : goal.returns-in-TotalTooLarge
returns-in-TotalTooLarge c = row c.in-TotalTooLarge.is
