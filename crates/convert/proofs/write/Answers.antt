use Prim.Native.Nat.{◌+◌, ◌-◌, ◌*◌}
use mathlib.Core.Path.{◌≡◌, refl, ◌∙◌}
use native.Mathlib.Omega.{arith}
use lib.ListN.{length-take, length-drop}
use Rattle.lent.specs.Laws.{whole, less_one}
use Rattle.lent.specs.Records.{record_length_lem}
use Rattle.convert.specs.Run.{images_of}
use Rattle.convert.specs.Laws.{images-length}
use Rattle.convert.proofs.Turn.{takes_step, write_turn}
use Rattle.convert.proofs.write.Goals as goal
use Rattle.convert.proofs.write.Goals.{In-loop, Start}

-- in a turn there is one record, and the rest, of the source and of the target
module _ (c : In-loop) where
  abbrev begun : Start
  begun = (goal.at.In-loop c).Start

  more : (begun.args.count - c.loop.counter) * begun.args.plan.source_length ≡ begun.args.plan.source_length + ((begun.args.count - c.loop.counter) - 1) * begun.args.plan.source_length
  more = less_one (begun.args.count - c.loop.counter) begun.args.plan.source_length (omega arith)

  more' : (begun.args.count - c.loop.counter) * begun.args.plan.target_length ≡ begun.args.plan.target_length + ((begun.args.count - c.loop.counter) - 1) * begun.args.plan.target_length
  more' = less_one (begun.args.count - c.loop.counter) begun.args.plan.target_length (omega arith)

pub loop-init : goal.loop-init
loop-init c =
    let p = c.requires in
    let all : c.args.count - 0 ≡ c.args.count = omega arith in
    rw all (omega (arith, p.1), omega (arith, p.2), refl, p.3, refl, c.scaled_table-table.ensures)

pub write_record-requires : goal.write_record-requires
write_record-requires c =
    let a = c.args in
    (c.requires.0, record_length_lem a.plan.source_length a.src.now c.loop.at (c.args.count - c.loop.counter) (omega arith) c.loop.invariant.0, simp (length-take, length-drop) (omega (arith, more' (goal.at.write_record-requires c).In-loop)), (takes_step a.up a.plan a.src.now c.loop.at (c.args.count - c.loop.counter) (omega arith) c.loop.invariant.3).0, c.loop.invariant.5)

pub loop-preserved : goal.loop-preserved
loop-preserved c =
    let a = c.args in
    let rest = takes_step a.up a.plan a.src.now c.loop.at (c.args.count - c.loop.counter) (omega arith) c.loop.invariant.3 in
    let t = write_turn a.up a.plan a.src.now c.loop.at (c.args.count - c.loop.counter) (omega arith) c.loop.dst c.write_record.new.dst c.loop.to c.requires.0 c.loop.invariant.0 (omega (arith, more' (goal.at.loop-preserved c).In-loop)) c.loop.invariant.3 c.write_record.ensures c.loop.invariant.4 in
    let fewer : a.count - (c.loop.counter + 1) ≡ a.count - c.loop.counter - 1 = omega arith in
    rw fewer (omega (arith, more (goal.at.loop-preserved c).In-loop), omega (arith, more' (goal.at.loop-preserved c).In-loop, t.0), t.0 ∙ c.loop.invariant.2, rest.1, t.1, c.loop.invariant.5)

pub returns : goal.returns
unfolding images_of
returns c =
    let a = c.args in
    let none : a.count - c.loop.counter ≡ 0 = omega arith in
    rw none at c.loop.invariant.4
    ∙ whole a.dst.now (images_of a.up a.plan a.count a.src.now) (a.count * a.plan.target_length) (images-length a.up a.plan c.requires.0 a.count a.src.now c.requires.3 c.requires.1) c.requires.2

pub overflow_add-at : goal.overflow_add-at
overflow_add-at c = omega (arith, more c)

pub slice_bounds-write_record-count : goal.slice_bounds-write_record-count
slice_bounds-write_record-count c = omega (arith, more c)

pub slice_bounds-write_record-start : goal.slice_bounds-write_record-start
slice_bounds-write_record-start c = omega (arith, more c)

pub slice_bounds-write_record-end : goal.slice_bounds-write_record-end
slice_bounds-write_record-end c = omega (arith, more c)

pub slice_bounds-write_record-count-in-loop : goal.slice_bounds-write_record-count-in-loop
slice_bounds-write_record-count-in-loop c = omega (arith, more' (goal.at.slice_bounds-write_record-count-in-loop c).In-loop)

pub slice_bounds-write_record-start-in-loop : goal.slice_bounds-write_record-start-in-loop
slice_bounds-write_record-start-in-loop c = omega (arith, more' (goal.at.slice_bounds-write_record-start-in-loop c).In-loop)

pub slice_bounds-write_record-end-in-loop : goal.slice_bounds-write_record-end-in-loop
slice_bounds-write_record-end-in-loop c = omega (arith, more' (goal.at.slice_bounds-write_record-end-in-loop c).In-loop)

pub overflow_add-at-in-loop : goal.overflow_add-at-in-loop
overflow_add-at-in-loop c = omega (arith, more (goal.at.overflow_add-at-in-loop c).In-loop)

pub overflow_add-to : goal.overflow_add-to
overflow_add-to c = omega (arith, more' (goal.at.overflow_add-to c).In-loop)
