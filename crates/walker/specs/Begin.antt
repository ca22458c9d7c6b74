-- Where a walker starts: "starts with the file check and its refusals".
use Rattle.std.specs.Prelude.{Result, Ok, Err}
use Rattle.refusal.specs.Refused.{at_record}
use Rattle.rules.specs.declared.NotAccepted.{NotAccepted}
use Rattle.std.specs.Prelude.{ℕ, List}
use Rattle.std.specs.Borrow.{Bor}
use Rattle.refusal.specs.declared.Refusal.{Refusal}
use Rattle.format.specs.Format.{plain}
use Rattle.header.specs.Judged.{header_in}
use Rattle.outline.specs.declared.Outline.{Outline}
use Rattle.outline.specs.Outline.{outline_of}
use Rattle.file.specs.Rules.{checked_of}
use Rattle.file.specs.Points.{point_format}
use Rattle.walker.specs.declared.Place.{Place}
use Rattle.walker.specs.declared.Walker.{Walker}

-- before the first point, in the format whose record length is the header's field
unfoldable pub first_place : Outline → Place
first_place o =
    record {
      format = point_format o;
      at = o.offset_to_point_data;
      left = o.number_of_point_records;
      count = o.number_of_point_records;
      start = (Ok tt);
    }

-- a refused walker has no record, and repeats its refusal
unfoldable pub refused_place : Refusal → ℕ → Place
refused_place r n = record { format = plain; at = 0; left = 0; count = 0; start = Err (at_record r n) }

-- by what the file check answers
abbrev pub begin_by : Outline → Result ℕ NotAccepted → Place
begin_by o (Ok n) = first_place o
begin_by o (Err err) = refused_place err.refusal err.«record»

unfoldable pub begin_of : ℕ → List ℕ → Place
begin_of allowance s = begin_by (outline_of (header_in s)) (checked_of allowance s)

-- the walker of a lent file
unfoldable pub walker_of : ℕ → Bor (List ℕ) → Walker
walker_of allowance file = record { file = file; place = begin_of allowance file.now }
