use native.Mathlib.Omega.{arith}
use Rattle.point.specs.Read.{color_at}
use Rattle.le.specs.Part.{num-part, num-first}
use Rattle.point.proofs.color_at.Goals as goal

pub part_at-part-requires : goal.part_at-part-requires
part_at-part-requires c = rw c.if-has.true at c.requires

pub returns-then-has : goal.returns-then-has
unfolding color_at
returns-then-has c =
    let a = c.args in
    rw (c.u16_at-then-has-2.ensures, c.u16_at-then-has.ensures, c.u16_at.ensures, c.part_at-part.ensures, num-part 2 4 6 a.at a.s.now (omega arith), num-part 2 2 6 a.at a.s.now (omega arith), num-first 2 6 a.at a.s.now (omega arith), c.if-has.true)

pub returns : goal.returns
unfolding color_at
returns c = rw c.if-has.false
