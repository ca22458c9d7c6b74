use Prim.Native.Nat.{◌+◌, ◌≤◌}
use mathlib.Core.Path.{ap, ◌∙◌}
use mathlib.Core.List.{List}
use native.Mathlib.Nat.{zero-mul, add-mul}
use native.Mathlib.Omega.{arith}
use lib.ListN.{length}
use Rattle.finding.specs.declared.Finding.{Finding}
use Rattle.finding.specs.Told.{told, telling, told-next, told_last}
use Rattle.findings.specs.Laws.{point_told, ends}
use Rattle.findings.proofs.tell_odd.Goals as goal
use Rattle.findings.proofs.tell_odd.Goals.{In-loop-i}

pub loop-i-init : goal.loop-i-init
loop-i-init c = (telling _ 0 _ _ _, omega (arith, zero-mul c.args.each))

-- the record ends in the file
ahead : (c : In-loop-i) → (let a = c.args in c.loop-i.at + a.each ≤ length a.file.now)
ahead c =
    omega (arith, c.loop-i.invariant.1, ends c.args.first c.args.count c.args.each c.loop-i.i c.requires c.loop-i-test.true)

pub loop-i-preserved : goal.loop-i-preserved
loop-i-preserved c =
    let l = c.loop-i in
    let a = c.args in
    let is = point_told a.file.now a.extended a.first a.each a.number l.i l.at l.invariant.1 c.is_odd_in-odd.ensures in (
      told-next _ 0 _ _ _ l.invariant.0 (omega (arith, c.loop-i-test.true)) (c.tell_if-n.ensures ∙ ap (λ (fs : List Finding). told fs (l.n, l.out)) is),
      omega (arith, l.invariant.1, add-mul l.i 1 a.each),
    )

pub returns : goal.returns
returns c = told_last _ 0 _ _ _ c.loop-i.invariant.0 (omega (arith, c.loop-i-test.false))

pub overflow_add-at : goal.overflow_add-at
overflow_add-at c = omega (arith, ahead c)

pub slice_bounds-is_odd_in-end : goal.slice_bounds-is_odd_in-end
slice_bounds-is_odd_in-end c = omega (arith, ahead c)

pub overflow_add-at-in-loop-i : goal.overflow_add-at-in-loop-i
overflow_add-at-in-loop-i c = omega (arith, ahead (goal.at.overflow_add-at-in-loop-i c).In-loop-i)

pub shape_of-out : goal.shape_of-out
shape_of-out c = c.loop-i.invariant.0.kept
