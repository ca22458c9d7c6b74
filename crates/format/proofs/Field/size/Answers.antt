use Rattle.format.proofs.Field.size.Goals as goal

-- In each arm the match tells which field it is, and the definition gives that field's size.
pub returns-in-X : goal.returns-in-X
returns-in-X c = rw c.in-X.is

pub returns-in-Y : goal.returns-in-Y
returns-in-Y c = rw c.in-Y.is

pub returns-in-Z : goal.returns-in-Z
returns-in-Z c = rw c.in-Z.is

pub returns-in-Intensity : goal.returns-in-Intensity
returns-in-Intensity c = rw c.in-Intensity.is

pub returns-then-format : goal.returns-then-format
returns-then-format c = rw (c.in-Flags.is, c.if-format.true)

pub returns-else-format : goal.returns-else-format
returns-else-format c = rw (c.in-Flags.is, c.if-format.false)

pub returns-in-UserData : goal.returns-in-UserData
returns-in-UserData c = rw c.in-UserData.is

pub returns-then-format-2 : goal.returns-then-format-2
returns-then-format-2 c = rw (c.in-ScanAngle.is, c.if-format-2.true)

pub returns-else-format-2 : goal.returns-else-format-2
returns-else-format-2 c = rw (c.in-ScanAngle.is, c.if-format-2.false)

pub returns-in-PointSourceId : goal.returns-in-PointSourceId
returns-in-PointSourceId c = rw c.in-PointSourceId.is

pub returns-in-GpsTime : goal.returns-in-GpsTime
returns-in-GpsTime c = rw c.in-GpsTime.is

pub returns-in-Color : goal.returns-in-Color
returns-in-Color c = rw c.in-Color.is

pub returns-in-Nir : goal.returns-in-Nir
returns-in-Nir c = rw c.in-Nir.is

pub returns-in-Waveform : goal.returns-in-Waveform
returns-in-Waveform c = rw c.in-Waveform.is

pub returns-in-ExtraBytes : goal.returns-in-ExtraBytes
returns-in-ExtraBytes c = rw c.in-ExtraBytes.is
