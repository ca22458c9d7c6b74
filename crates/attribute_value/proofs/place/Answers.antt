use mathlib.Core.Path.{◌≡◌, sym, ◌∙◌}
use mathlib.Core.Bool.{true}
use native.Mathlib.Omega.{arith}
use Rattle.attribute_value.specs.Value.{lies}
use Rattle.attribute_value.specs.Laws.{Lies, lies_says, placed_at, not-placed}
use Rattle.attribute_value.proofs.place.Goals as goal
use Rattle.attribute_value.proofs.place.Goals.{Else-not-lies, Start}

pub returns-then-not-lies : goal.returns-then-not-lies
returns-then-not-lies c =
    let a = c.args in
    sym (not-placed a.a a.point a.file.now (sym c.lies.ensures ∙ c.if-not-lies.true))

-- the value lies in the file
module _ (c : Else-not-lies) where
  abbrev start : Start
  start = (goal.at.Else-not-lies c).Start

  is : lies start.args.a start.args.point start.args.file.now ≡ true
  is = sym c.lies.ensures ∙ c.if-not-lies.false

  there : Lies start.args.a start.args.point start.args.file.now
  there = lies_says start.args.a start.args.point start.args.file.now is

pub returns : goal.returns
returns c = let a = (start (goal.at.returns c).Else-not-lies).args in sym (placed_at a.a a.point a.file.now (is (goal.at.returns c).Else-not-lies))

pub overflow_sub-result : goal.overflow_sub-result
overflow_sub-result c = omega (arith, (there c).one)

pub overflow_mul-result : goal.overflow_mul-result
overflow_mul-result c = omega (arith, (there (goal.at.overflow_mul-result c).Else-not-lies).ends)

pub overflow_add-result : goal.overflow_add-result
overflow_add-result c = omega (arith, (there (goal.at.overflow_add-result c).Else-not-lies).ends)
