use Prim.Native.Nat.{ℕ, ◌+◌, ◌*◌, ◌^◌, ◌≤◌, ◌<◌}
use mathlib.Core.Path.{refl}
use native.Mathlib.Nat.{mul-le-mul_right}
use native.Mathlib.Omega.{arith}
use lib.ListN.{length, get_or}
use Rattle.sheet_count.proofs.Turn.{begun, stands, class-room, return_room, step, done, nothing}
use Rattle.sheet_count.proofs.tally_at.Goals as goal
use Rattle.sheet_count.proofs.tally_at.Goals.{Else-n-eq0, In-loop-i}

pub returns-then-n-eq0 : goal.returns-then-n-eq0
returns-then-n-eq0 c =
    let a = c.args in
    nothing a.extended a.first a.stride a.n a.s.now c.if-n-eq0.true refl refl

-- there is a first record
one : (c : Else-n-eq0) → (let a = c.args in a.first + 20 ≤ length a.s.now)
one c =
    let some : 1 * c.args.stride ≤ c.args.n * c.args.stride = mul-le-mul_right c.args.stride (omega (arith, c.if-n-eq0.false)) in
    omega (arith, c.requires.0, c.requires.1)

pub loop-i-init : goal.loop-i-init
loop-i-init c =
    let a = c.args in
    begun a.extended a.first a.stride a.n a.s.now refl refl c.extent_in-extent.ensures

module _ (c : In-loop-i) where
  -- the next record stands in s
  turn : c.args.first + c.loop-i.i * c.args.stride + c.args.stride ≤ length c.args.s.now
  turn = stands c.args.extended c.args.first c.args.stride c.args.n c.args.s.now c.loop-i.invariant c.requires.0 c.requires.1 c.loop-i-test.true

  -- and there is room for one more of its class and of its return number
  class-fits : (k : ℕ) → k ≤ 255 → get_or c.loop-i.classes k 0 ≤ c.loop-i.i
  class-fits k h = (class-room c.args.extended c.args.first c.args.stride c.args.n c.args.s.now c.loop-i.invariant k (omega arith)).1

  return_fits : (k : ℕ) → k ≤ 15 → get_or c.loop-i.returns k 0 ≤ c.loop-i.i
  return_fits k h = (return_room c.args.extended c.args.first c.args.stride c.args.n c.args.s.now c.loop-i.invariant k (omega arith)).1

pub loop-i-preserved : goal.loop-i-preserved
loop-i-preserved c =
    let a = c.args in
    step a.extended a.first a.stride a.n a.s.now c.loop-i.invariant c.loop-i-test.true c.class_in-class.ensures.0 c.return_in-number.ensures.0 c.extent_in.ensures c.both_extents-extent.ensures

pub returns : goal.returns
returns c =
    let a = c.args in
    done a.extended a.first a.stride a.n a.s.now c.loop-i.invariant (omega (arith, c.if-n-eq0.false)) c.loop-i-test.false

pub overflow_add-first : goal.overflow_add-first
overflow_add-first c = omega (arith, one c)

pub slice_bounds-extent_in-start : goal.slice_bounds-extent_in-start
slice_bounds-extent_in-start c = omega (arith, one c)

pub slice_bounds-extent_in-end : goal.slice_bounds-extent_in-end
slice_bounds-extent_in-end c = omega (arith, one c)

pub overflow_add-part : goal.overflow_add-part
overflow_add-part c = omega (arith, turn c, c.requires.0)

pub slice_bounds-part-start : goal.slice_bounds-part-start
slice_bounds-part-start c = omega (arith, turn c, c.requires.0)

pub slice_bounds-part-end : goal.slice_bounds-part-end
slice_bounds-part-end c = omega (arith, turn c, c.requires.0)

pub offset_bounds-classes-class : goal.offset_bounds-classes-class
offset_bounds-classes-class c = omega (arith, c.class_in-class.ensures.1)

pub bounds-classes-class : goal.bounds-classes-class
bounds-classes-class c = c.class_in-class.ensures.1

pub overflow_add-classes : goal.overflow_add-classes
overflow_add-classes c = omega (arith, class-fits (goal.at.overflow_add-classes c).In-loop-i c.class_in-class.result (omega (arith, c.class_in-class.ensures.1)), c.loop-i-test.true)

pub bounds-classes-class-in-loop-i : goal.bounds-classes-class-in-loop-i
bounds-classes-class-in-loop-i c = c.class_in-class.ensures.1

pub offset_bounds-returns-number : goal.offset_bounds-returns-number
offset_bounds-returns-number c = omega (arith, c.return_in-number.ensures.1)

pub bounds-returns-number : goal.bounds-returns-number
bounds-returns-number c = c.return_in-number.ensures.1

pub overflow_add-returns : goal.overflow_add-returns
overflow_add-returns c = omega (arith, return_fits (goal.at.overflow_add-returns c).In-loop-i c.return_in-number.result (omega (arith, c.return_in-number.ensures.1)), c.loop-i-test.true)

pub bounds-returns-number-in-loop-i : goal.bounds-returns-number-in-loop-i
bounds-returns-number-in-loop-i c = c.return_in-number.ensures.1
