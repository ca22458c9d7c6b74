use Prim.Native.Nat.{ℕ, ◌+◌, ◌*◌, ◌-◌, ◌≤◌}
use mathlib.Core.Path.{◌≡◌, ◌∙◌}
use mathlib.Core.List.{List}
use native.Mathlib.Nat.{add-zero, min-eq_left, mul-le-mul_left}
use native.Mathlib.Omega.{arith}
use lib.ListN.{length, take, drop}
use Rattle.le.specs.Le.{num}
use Rattle.le.specs.Part.{num-drop}
use Rattle.column.specs.Fill.{begun, step-at, done}
use Rattle.attribute_value.specs.Laws.{first-bytes}
use Rattle.attribute_value.proofs.fill.Goals as goal
use Rattle.attribute_value.proofs.fill.Goals.{In-loop-i, Start}

-- a number of w bytes, read as eight
number : (w at : ℕ) (s : List ℕ) → w ≤ 8 → num 8 0 (take (at + w - at) (drop at s)) ≡ num w at s
number w at s h =
    let long : at + w - at ≡ w = omega arith in
    rw long (first-bytes w (drop at s) ∙ rw (min-eq_left h, num-drop, add-zero))

module _ (c : In-loop-i) where
  abbrev b : Start
  b = (goal.at.In-loop-i c).Start

  -- the next number stands in s
  stands : c.loop-i.at + b.args.width ≤ length b.args.s.now
  stands = omega (arith, b.requires.0.each c.loop-i.i c.loop-i-test.true, c.loop-i.invariant.place)

  few : c.loop-i.i * 20 ≤ length b.args.s.now
  few = omega (arith, b.requires.0.each c.loop-i.i c.loop-i-test.true, mul-le-mul_left c.loop-i.i b.requires.0.record_long.0)

pub loop-i-preserved : goal.loop-i-preserved
loop-i-preserved c =
    let l = c.loop-i in
    step-at l.invariant c.loop-i-test.true (b (goal.at.loop-i-preserved c).In-loop-i).requires.1 (c.u64_at.ensures ∙ number (b (goal.at.loop-i-preserved c).In-loop-i).args.width l.at (b (goal.at.loop-i-preserved c).In-loop-i).args.s.now (b (goal.at.loop-i-preserved c).In-loop-i).requires.0.short)

pub loop-i-init : goal.loop-i-init
loop-i-init c = begun

pub overflow_add-to : goal.overflow_add-to
overflow_add-to c = omega (arith, stands c)

pub slice_bounds-u64_at-start : goal.slice_bounds-u64_at-start
slice_bounds-u64_at-start c = omega (arith, stands c)

pub slice_bounds-u64_at-end : goal.slice_bounds-u64_at-end
slice_bounds-u64_at-end c = omega (arith, stands c)

pub offset_bounds-dst-i : goal.offset_bounds-dst-i
offset_bounds-dst-i c = omega (arith, few (goal.at.offset_bounds-dst-i c).In-loop-i)

pub bounds-dst-i : goal.bounds-dst-i
bounds-dst-i c = omega (arith, c.loop-i.invariant.kept, c.loop-i-test.true)

pub overflow_add-at : goal.overflow_add-at
overflow_add-at c = omega (arith, stands (goal.at.overflow_add-at c).In-loop-i, (b (goal.at.overflow_add-at c).In-loop-i).requires.0.record_long.1)

pub loop-i-smaller : goal.loop-i-smaller
loop-i-smaller c = omega (arith, c.loop-i-test.true)

pub shape_of-dst : goal.shape_of-dst
shape_of-dst c = c.loop-i.invariant.kept

pub returns : goal.returns
returns c = done c.loop-i.invariant c.loop-i-test.false
