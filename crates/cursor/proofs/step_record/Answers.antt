use Rattle.std.specs.Prelude.{Ok}
use native.Mathlib.Omega.{arith}
use mathlib.Core.Path.{◌≡◌}
use Rattle.vlr.specs.Vlr.{extent_of}
use Rattle.cursor.specs.Parts.{between}
use Rattle.cursor.specs.Cursor.{record_step}
use Rattle.cursor.specs.Laws.{ends_within}
use Rattle.cursor.proofs.step_record.Goals as goal

pub returns-in_default : goal.returns-in_default
unfolding record_step
returns-in_default c =
    rw (← c.part_of.ensures, ← c.measure.ensures, c.in_default.is)

-- the record ends at or before `to`, which fits
pub overflow_add-c : goal.overflow_add-c
overflow_add-c c =
    let e : extent_of c.args.extended (between c.args.c.at c.args.to c.args.file.now) ≡ Ok c.in-Ok.n = rw (← c.part_of.ensures, ← c.measure.ensures) c.in-Ok.is in
    record { fits = omega (arith, ends_within c.args.extended c.args.file.now c.args.c.at c.args.to e, c.ranges.to.fits) }

pub returns : goal.returns
unfolding record_step
returns c =
    rw (← c.part_of.ensures, ← c.measure.ensures, c.in-Ok.is) c.told.ensures
