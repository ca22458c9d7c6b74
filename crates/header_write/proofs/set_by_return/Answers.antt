use mathlib.Core.Path.{◌≡◌, refl}
use borrow.Author.Rules.{rules}
use lib.ListN.{length}
use Rattle.header_write.proofs.Counts.{turn, done}
use Rattle.header_write.proofs.set_by_return.Goals as goal

pub loop-i-preserved : goal.loop-i-preserved
loop-i-preserved c =
    let a = c.args in
    let l : length a.xs ≡ 5 = search rules in
    turn 5 111 4 a.d.now c.loop-i.d a.xs c.loop-i.i l c.loop-i.invariant _ (search rules) c.set_u32.ensures

pub returns : goal.returns
returns c =
    let a = c.args in
    let l : length a.xs ≡ 5 = search rules in
    (done 5 111 4 a.d.now c.loop-i.d a.xs c.loop-i.i l c.loop-i.invariant (search rules), l)

pub loop-i-init : goal.loop-i-init
loop-i-init c = (search rules, refl, refl)
