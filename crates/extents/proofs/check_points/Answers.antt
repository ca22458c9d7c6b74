use Prim.Native.Nat.{◌+◌, ◌*◌, ◌≤◌}
use mathlib.Core.Path.{refl}
use native.Mathlib.Omega.{arith}
use borrow.Author.Tests.{lt-leb, le-leb}
use lib.ListN.{length}
use Rattle.rules.specs.Rules.{first, record_number}
use Rattle.extents.specs.Extents.{point_rule}
use Rattle.extents.proofs.Then.{beyond, inside}
use Rattle.extents.proofs.check_points.Goals as goal
use Rattle.extents.proofs.check_points.Goals.{Else-file-offset}

pub returns-then-file-offset : goal.returns-then-file-offset
unfolding first point_rule record_number
returns-then-file-offset c =
    let o = c.args.o in
    let late = beyond (length c.args.file.now) o.offset_to_point_data o.point_data_record_length o.number_of_point_records c.requires.within c.requires.some-length c.if-file-offset.true in
    rw (lt-leb _ _ late) c.refused.ensures

-- the points end in the file, so neither the product nor the sum wraps
ends : (c : Else-file-offset) → (let a = c.args in a.o.offset_to_point_data + a.o.number_of_point_records * a.o.point_data_record_length ≤ length a.file.now)
ends c =
    let o = c.args.o in
    inside (length c.args.file.now) o.offset_to_point_data o.point_data_record_length o.number_of_point_records c.requires.within c.requires.some-length c.if-file-offset.false

pub returns : goal.returns
unfolding first point_rule
returns c = rw (le-leb _ _ (ends (goal.at.returns c).Else-file-offset)) c.check_later.ensures

pub check_later-requires : goal.check_later-requires
check_later-requires c = refl

pub overflow_mul-count : goal.overflow_mul-count
overflow_mul-count c = omega (arith, ends c)

pub overflow_add-offset : goal.overflow_add-offset
overflow_add-offset c = omega (arith, ends c)
