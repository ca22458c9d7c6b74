-- What the counts are of: each point that a walker of the file gives, "counted from the records and never from header sums".
use Rattle.std.specs.Prelude.{Result, Ok, Err, ℕ, ◌+◌, ◌*◌, List, take, drop}
use Rattle.refusal.specs.declared.Refused.{Refused}
use Rattle.format.specs.Fields.{record_bytes}
use Rattle.flags.specs.Readings.{class_of, return_number_of}
use Rattle.point.specs.declared.Point.{Point}
use Rattle.point.specs.Read.{point_of}
use Rattle.walker.specs.declared.Place.{Place}
use Rattle.walker.specs.Begin.{begin_of}
use Rattle.sheet_count.specs.declared.Extent.{Extent}
use Rattle.sheet_count.specs.declared.Tally.{Tally}
use Rattle.sheet_count.specs.Count.{only, counts_of, bounds_of}

-- the point in record i, from 0, of those before which a walker starts
abbrev pub point_at : Place → List ℕ → ℕ → Point
point_at p s i = let m = record_bytes p.format in point_of p.format (take m (drop (p.at + i * m) s))

-- its class, "by five bits in old formats", its return number, 0 too, and its X, Y and Z, the stored whole numbers
abbrev pub class_at : Place → List ℕ → ℕ → ℕ
class_at p s i = class_of (point_at p s i).flags

abbrev pub return_at : Place → List ℕ → ℕ → ℕ
return_at p s i = return_number_of (point_at p s i).flags

abbrev pub extent_at : Place → List ℕ → ℕ → Extent
extent_at p s i = let q = point_at p s i in record { x = only q.x; y = only q.y; z = only q.z }

-- every point counts
unfoldable pub tally_of : Place → List ℕ → Tally
tally_of p s =
    record {
      points = p.count;
      classes = counts_of 256 (class_at p s) p.count;
      returns = counts_of 16 (return_at p s) p.count;
      bounds = bounds_of (extent_at p s) p.count;
    }

-- by what the walker starts with, the file check's answer
abbrev pub counted_by : Tally → Result Unit Refused → Result Tally Refused
counted_by t (Ok tt) = Ok t
counted_by t (Err err) = Err err

unfoldable pub counted_of : ℕ → List ℕ → Result Tally Refused
counted_of allowance s = let p = begin_of allowance s in counted_by (tally_of p s) p.start
