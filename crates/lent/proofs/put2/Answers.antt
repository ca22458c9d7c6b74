use native.Mathlib.Omega.{arith}
use Rattle.lent.proofs.Two.{short, both}
use Rattle.lent.proofs.put2.Goals as goal

pub returns-then-dst-wanted : goal.returns-then-dst-wanted
returns-then-dst-wanted c =
    let a = c.args in
    short a.head.now a.tail.now a.dst.now c.if-dst-wanted.true

pub returns : goal.returns
returns c =
    let a = c.args in
    let w = c.put-2 in
    both a.dst.now a.head.now a.tail.now c.put.new.dst w.new.dst c.put.result w.result (omega arith) c.put.ensures w.ensures
