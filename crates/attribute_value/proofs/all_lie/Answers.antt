use mathlib.Core.Path.{sym, ◌∙◌}
use native.Mathlib.Omega.{arith}
use Rattle.attribute_value.specs.Laws.{none_lie, empty-lies, by_last}
use Rattle.attribute_value.proofs.all_lie.Goals as goal

pub returns-then-first-eq0 : goal.returns-then-first-eq0
returns-then-first-eq0 c = let a = c.args in sym (none_lie a.a a.first a.count a.file.now (λ h. omega arith))

pub returns-then-a-count : goal.returns-then-a-count
returns-then-a-count c = let a = c.args in sym (none_lie a.a a.first a.count a.file.now (λ h. omega arith))

pub returns-then-a-count-2 : goal.returns-then-a-count-2
returns-then-a-count-2 c = let a = c.args in sym (none_lie a.a a.first a.count a.file.now (λ h. omega arith))

pub returns-then-count-eq0 : goal.returns-then-count-eq0
returns-then-count-eq0 c =
    let a = c.args in
    sym (empty-lies a.a a.first a.count a.file.now (omega arith, omega arith) (omega arith))

pub returns : goal.returns
returns c =
    let a = c.args in
    c.lies.ensures ∙ sym (by_last a.a a.first a.count a.file.now (omega arith, omega arith) (λ e. omega arith))
