-- The marks of a point: flags, angle and near infrared, which old and new records hold in different ways.
use Rattle.std.specs.Prelude.{Result, Ok, Err}
use Rattle.refusal.specs.declared.Refusal.{Refusal}
use Rattle.point.specs.declared.Point.{Point}
use Rattle.point.specs.declared.marks.Marks.{Marks}

abbrev pub marks_of : Point → Marks
marks_of p = record { flags = p.flags; scan_angle = p.scan_angle; nir = p.nir }

-- a record's are its point's, and it is refused as the point is
abbrev pub marks_read : Result Point Refusal → Result Marks Refusal
marks_read (Ok p) = Ok (marks_of p)
marks_read (Err r) = Err r
