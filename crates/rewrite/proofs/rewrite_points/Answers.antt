use Rattle.std.specs.Prelude.{Ok}
use Prim.Native.Nat.{◌+◌, ◌-◌, ◌*◌}
use mathlib.Core.Path.{◌≡◌, refl, ap, ◌∙◌}
use native.Mathlib.Omega.{arith}
use lib.ListN.{length, length-take, length-drop}
use Rattle.lent.specs.Laws.{whole, less_one}
use Rattle.rewrite.specs.Back.{points_back}
use Rattle.rewrite.specs.Laws.{part_same}
use Rattle.rewrite.proofs.Turn.{points_turn}
use Rattle.rewrite.proofs.rewrite_points.Goals as goal
use Rattle.rewrite.proofs.rewrite_points.Goals.{In-loop}

pub loop-init : goal.loop-init
loop-init c =
    let all : c.args.count - 0 ≡ c.args.count = omega arith in
    rw all (omega (arith, c.requires.0.1), refl, refl)

one_more : (c : In-loop) → (c.args.count - c.loop.counter) * c.args.record_length ≡ c.args.record_length + ((c.args.count - c.loop.counter) - 1) * c.args.record_length
one_more c = less_one _ c.args.record_length (omega arith)

pub rewrite_point-requires : goal.rewrite_point-requires
rewrite_point-requires c =
    let more = one_more (goal.at.rewrite_point-requires c).In-loop in (
      c.requires.0.0 ∙ ap Ok (simp (length-take, length-drop) (omega (arith, more))),
      simp (length-take, length-drop) (omega (arith, more)),
    )

pub loop-preserved : goal.loop-preserved
loop-preserved c =
    let a = c.args in
    let t = points_turn a.format a.record_length c.requires.0.0 a.src.now (λ k. omega (arith, c.shared_slice_known-1.given k)) c.loop.at (c.args.count - c.loop.counter) (omega arith) c.loop.invariant.0 c.loop.dst c.rewrite_point.new.dst (omega arith) c.rewrite_point.ensures c.loop.invariant.2 in
    let fewer : a.count - (c.loop.counter + 1) ≡ a.count - c.loop.counter - 1 = omega arith in
    rw fewer (omega (arith, one_more (goal.at.loop-preserved c).In-loop), t.0 ∙ c.loop.invariant.1, t.1)

pub returns : goal.returns
unfolding points_back
returns c =
    let a = c.args in
    let p = c.requires in
    let none : a.count - c.loop.counter ≡ 0 = omega arith in
    let same = part_same a.format a.record_length a.count a.src.now p.0 (λ k. omega (arith, c.shared_slice_known-1.given k)) in
    rw none at c.loop.invariant.2
    ∙ whole a.dst.now (points_back a.format a.record_length a.count a.src.now) (length a.src.now) (ap length same) p.1

pub overflow_add-next : goal.overflow_add-next
overflow_add-next c = omega (arith, one_more c)

pub slice_bounds-rewrite_point-count : goal.slice_bounds-rewrite_point-count
slice_bounds-rewrite_point-count c = omega (arith, one_more c)

pub slice_bounds-rewrite_point-start : goal.slice_bounds-rewrite_point-start
slice_bounds-rewrite_point-start c = omega (arith, one_more c)

pub slice_bounds-rewrite_point-end : goal.slice_bounds-rewrite_point-end
slice_bounds-rewrite_point-end c = omega (arith, one_more c)

pub slice_bounds-rewrite_point-count-in-loop : goal.slice_bounds-rewrite_point-count-in-loop
slice_bounds-rewrite_point-count-in-loop c = omega (arith, one_more (goal.at.slice_bounds-rewrite_point-count-in-loop c).In-loop)

pub slice_bounds-rewrite_point-start-in-loop : goal.slice_bounds-rewrite_point-start-in-loop
slice_bounds-rewrite_point-start-in-loop c = omega (arith, one_more (goal.at.slice_bounds-rewrite_point-start-in-loop c).In-loop)

pub slice_bounds-rewrite_point-end-in-loop : goal.slice_bounds-rewrite_point-end-in-loop
slice_bounds-rewrite_point-end-in-loop c = omega (arith, one_more (goal.at.slice_bounds-rewrite_point-end-in-loop c).In-loop)
