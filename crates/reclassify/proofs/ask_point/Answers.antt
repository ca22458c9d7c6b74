use Prim.Native.Nat.{◌-◌, ◌≤◌, ◌<◌}
use native.Mathlib.Nat.{mul-le-mul_right}
use native.Mathlib.Omega.{arith}
use borrow.Author.Tests.{lt-ltb, le-ltb, le-leb, lt-leb}
use lib.ListN.{length}
use Rattle.reclassify.specs.Reclassify.{record_at, asked_in}
use Rattle.reclassify.proofs.ask_point.Goals as goal
use Rattle.reclassify.proofs.ask_point.Goals.{Else-count-point, Start}

pub returns-then-point-eq0 : goal.returns-then-point-eq0
unfolding asked_in
returns-then-point-eq0 c = rw c.if-point-eq0.true c.refused.ensures

pub returns-then-count-point : goal.returns-then-count-point
unfolding asked_in
returns-then-count-point c =
    let point = c.args.point in
    let some : 0 < point = omega (arith, c.if-point-eq0.false) in
    rw (lt-ltb 0 point some, lt-leb _ _ c.if-count-point.true) c.refused-then-count-point.ensures

-- a point that is there: its record begins in the file
module _ (x : Else-count-point) where
  abbrev begun : Start
  begun = (goal.at.Else-count-point x).Start

  some : 0 < begun.args.point
  some = omega (arith, x.if-point-eq0.false)

  all : begun.args.point ≤ begun.args.o.number_of_point_records
  all = omega (arith, x.if-count-point.false)

  begins : record_at begun.args.o begun.args.point ≤ length begun.args.file.now
  begins =
      let before : begun.args.point - 1 ≤ begun.args.o.number_of_point_records = omega (arith, all) in
      omega (arith, mul-le-mul_right begun.args.o.point_data_record_length before, begun.requires)

pub overflow_mul-record : goal.overflow_mul-record
overflow_mul-record c = omega (arith, begins (goal.at.overflow_mul-record c).Else-count-point)

pub overflow_add-record : goal.overflow_add-record
overflow_add-record c = omega (arith, begins (goal.at.overflow_add-record c).Else-count-point)

pub overflow_add-record-then-o-ge6 : goal.overflow_add-record-then-o-ge6
overflow_add-record-then-o-ge6 c = omega (arith, begins (goal.at.overflow_add-record-then-o-ge6 c).Else-count-point)

pub returns-then-o-ge6 : goal.returns-then-o-ge6
unfolding asked_in
returns-then-o-ge6 c =
    rw (lt-ltb 0 _ (some (goal.at.returns-then-o-ge6 c).Else-count-point), le-leb _ _ (all (goal.at.returns-then-o-ge6 c).Else-count-point), le-leb 6 _ c.if-o-ge6.true) c.new_class.ensures

pub returns-then-class-gt31 : goal.returns-then-class-gt31
unfolding asked_in
returns-then-class-gt31 c =
    rw (lt-ltb 0 _ (some (goal.at.returns-then-class-gt31 c).Else-count-point), le-leb _ _ (all (goal.at.returns-then-class-gt31 c).Else-count-point), lt-leb 6 _ c.if-o-ge6.false, lt-ltb 31 _ c.if-class-gt31.true) c.refused-then-class-gt31.ensures

pub overflow_add-record-2 : goal.overflow_add-record-2
overflow_add-record-2 c = omega (arith, begins (goal.at.overflow_add-record-2 c).Else-count-point)

pub returns : goal.returns
unfolding asked_in
returns c =
    rw (lt-ltb 0 _ (some (goal.at.returns c).Else-count-point), le-leb _ _ (all (goal.at.returns c).Else-count-point), lt-leb 6 _ c.if-o-ge6.false, le-ltb 31 _ c.if-class-gt31.false) c.old_class.ensures
