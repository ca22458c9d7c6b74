use native.Mathlib.Omega.{arith}
use Rattle.point.specs.Read.{time_at}
use Rattle.le.specs.Part.{num-first}
use Rattle.point.proofs.time_at.Goals as goal

pub part_at-part-requires : goal.part_at-part-requires
part_at-part-requires c = rw c.if-has.true at c.requires

pub returns-then-has : goal.returns-then-has
unfolding time_at
returns-then-has c =
    let a = c.args in
    rw (c.f64_at.ensures, c.part_at-part.ensures, num-first 8 8 a.at a.s.now (omega arith), c.if-has.true)

pub returns : goal.returns
unfolding time_at
returns c = rw c.if-has.false
