use Prim.Native.Nat.{ℕ, ◌+◌, ◌-◌, ◌≤◌}
use mathlib.Core.Path.{◌≡◌, ap, ◌∙◌}
use mathlib.Core.List.{List}
use native.Mathlib.Nat.{add-zero}
use native.Mathlib.Omega.{arith}
use lib.IntN.{ℤ}
use lib.ListN.{length, take, drop}
use mir.Syntax.{w32}
use mir.Val.{to_z, of_z}
use Rattle.le.specs.Le.{num, Bytes}
use Rattle.le.specs.Laws.{num-lt, num-part}
use Rattle.column.specs.Column.{Lie}
use Rattle.column.specs.Fill.{stored, Filling, Ahead, begun, ahead, step-at, done}
use Rattle.column_xyz.proofs.fill.Invariants.{Third}
use Rattle.column_xyz.proofs.fill.Goals as goal
use Rattle.column_xyz.proofs.fill.Goals.{In-loop-i}

module _ (c : In-loop-i) where
  abbrev at : ℕ
  at = c.loop-i.at

  abbrev s : List ℕ
  s = c.args.s.now

  -- the next three numbers stand in s
  twelve : at + 12 ≤ length s
  twelve = omega (arith, c.requires.0.each c.loop-i.i c.loop-i-test.true, c.loop-i.invariant.xs.place)

  turn : Ahead 4 c.args.stride s at c.loop-i.i
  turn =
      let all = c.requires.0 in
      let one : Lie 4 c.args.first c.args.stride c.args.n s = record { each = λ i h. omega (arith, all.each i h); apart = λ h. omega (arith, all.apart h); strides = all.strides } in
      ahead c.loop-i.invariant.xs one c.loop-i-test.true

  -- what is read of them is stored
  value : (k : ℕ) {z : ℤ} → k + 4 ≤ 12 → z ≡ to_z w32 (num 4 k (take (at + 12 - at) (drop at s))) → to_z w32 (of_z w32 z) ≡ to_z w32 (num 4 (at + k) s)
  value k h is =
      let bytes : Bytes s = λ j. omega (arith, c.type_inv.s j) in
      stored (num 4 (at + k) s) (num-lt 4 s (at + k) bytes) (is ∙ ap (to_z w32) (num-part 4 k (at + 12 - at) at s (omega arith)))

  -- and one record further the next stand in the same order
  further : (k : ℕ) {d₀ d : List ℤ} {j : ℕ} → Filling (to_z w32) 4 (c.args.first + k) c.args.stride c.args.n s d₀ d (at + k + c.args.stride) j → Third k c.args.first c.args.stride c.args.n s d₀ d (at + c.args.stride) j
  further k f = let e : at + k + c.args.stride ≡ at + c.args.stride + k = omega arith in rw e at f

pub loop-i-preserved : goal.loop-i-preserved
loop-i-preserved c =
    let t = (goal.at.loop-i-preserved c).In-loop-i in
    let l = c.loop-i.invariant in
    let h = c.loop-i-test.true in
    let p = c.requires in
    record {
      xs = step-at l.xs h p.1 (value t 0 (omega arith) c.i32_at.ensures ∙ ap (λ (k : ℕ). to_z w32 (num 4 k (s t))) (add-zero (at t)));
      ys = further t 4 (step-at l.ys h p.2 (value t 4 (omega arith) c.i32_at-in-loop-i.ensures));
      zs = further t 8 (step-at l.zs h p.3 (value t 8 (omega arith) c.i32_at-in-loop-i-2.ensures));
    }

pub loop-i-init : goal.loop-i-init
loop-i-init c = record { xs = begun; ys = begun; zs = begun }

pub overflow_add-to : goal.overflow_add-to
overflow_add-to c = omega (arith, twelve c)

pub slice_bounds-part-start : goal.slice_bounds-part-start
slice_bounds-part-start c = omega (arith, twelve c)

pub slice_bounds-part-end : goal.slice_bounds-part-end
slice_bounds-part-end c = omega (arith, twelve c)

pub offset_bounds-xs-i : goal.offset_bounds-xs-i
offset_bounds-xs-i c = omega (arith, (turn (goal.at.offset_bounds-xs-i c).In-loop-i).small)

pub bounds-xs-i : goal.bounds-xs-i
bounds-xs-i c = omega (arith, c.loop-i.invariant.xs.kept, c.loop-i-test.true)

pub offset_bounds-ys-i : goal.offset_bounds-ys-i
offset_bounds-ys-i c = omega (arith, (turn (goal.at.offset_bounds-ys-i c).In-loop-i).small)

pub bounds-ys-i : goal.bounds-ys-i
bounds-ys-i c = omega (arith, c.loop-i.invariant.ys.kept, c.loop-i-test.true)

pub offset_bounds-zs-i : goal.offset_bounds-zs-i
offset_bounds-zs-i c = omega (arith, (turn (goal.at.offset_bounds-zs-i c).In-loop-i).small)

pub bounds-zs-i : goal.bounds-zs-i
bounds-zs-i c = omega (arith, c.loop-i.invariant.zs.kept, c.loop-i-test.true)

pub overflow_add-at : goal.overflow_add-at
overflow_add-at c = omega (arith, (turn (goal.at.overflow_add-at c).In-loop-i).further, twelve (goal.at.overflow_add-at c).In-loop-i)

pub loop-i-smaller : goal.loop-i-smaller
loop-i-smaller c = omega (arith, c.loop-i-test.true)

pub shape_of-xs : goal.shape_of-xs
shape_of-xs c = c.loop-i.invariant.xs.kept

pub shape_of-ys : goal.shape_of-ys
shape_of-ys c = c.loop-i.invariant.ys.kept

pub shape_of-zs : goal.shape_of-zs
shape_of-zs c = c.loop-i.invariant.zs.kept

pub returns : goal.returns
returns c =
    let l = c.loop-i.invariant in
    λ i. (done l.xs c.loop-i-test.false i, done l.ys c.loop-i-test.false i, done l.zs c.loop-i-test.false i)
