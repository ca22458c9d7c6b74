use mathlib.Core.Path.{◌≡◌, refl}
use native.Mathlib.Omega.{arith}
use borrow.Author.Rules.{rules}
use borrow.Author.Tests.{le-leb, lt-leb}
use lib.ListN.{length, length-set}
use lib.Seq.{paste-zero}
use Rattle.lent.proofs.Copy.{turn, whole}
use Rattle.lent.proofs.put.Goals as goal

pub returns-then-dst-n : goal.returns-then-dst-n
returns-then-dst-n c = simp (lt-leb _ _ c.if-dst-n.true)

pub loop-i-init : goal.loop-i-init
loop-i-init c = (search rules, refl, paste-zero _ 0 c.args.src.now)

pub loop-i-preserved : goal.loop-i-preserved
loop-i-preserved c =
    let s = c.args in
    (search rules, simp length-set (omega arith), turn s.dst.now s.src.now _ (omega arith) (omega arith) c.loop-i.invariant.2)

pub returns : goal.returns
returns c =
    let e : c.loop-i.i ≡ length c.args.src.now = omega arith in
    rw (c.loop-i.invariant.2, whole _ _ _ e, le-leb _ _ c.if-dst-n.false)
