use Prim.Native.Nat.{suc, ◌+◌, ◌*◌}
use mathlib.Core.Path.{◌≡◌, sym}
use native.Mathlib.Omega.{arith}
use lib.ListN.{length-set}
use Rattle.finding.specs.Told.{stored_there, stored-nowhere}
use Rattle.finding.proofs.store.Goals as goal

pub returns-then-out-n : goal.returns-then-out-n
returns-then-out-n c = let a = c.args in sym (stored-nowhere a.finding a.n a.out.now (omega arith))

pub returns : goal.returns
returns c =
    let a = c.args in
    let second : a.n * 4 + 1 ≡ suc (a.n * 4) = omega arith in
    let third : a.n * 4 + 2 ≡ suc (suc (a.n * 4)) = omega arith in
    let fourth : a.n * 4 + 3 ≡ suc (suc (suc (a.n * 4))) = omega arith in
    rw (second, third, fourth) (sym (stored_there a.finding a.n a.out.now (omega arith)))

pub bounds-out-at-2 : goal.bounds-out-at-2
bounds-out-at-2 c = simp length-set (omega arith)

pub bounds-out-at-3 : goal.bounds-out-at-3
bounds-out-at-3 c = simp length-set (omega arith)

pub bounds-out-at-4 : goal.bounds-out-at-4
bounds-out-at-4 c = simp length-set (omega arith)
