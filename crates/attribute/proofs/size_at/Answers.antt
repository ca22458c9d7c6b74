use mathlib.Core.Path.{◌∙◌}
use native.Mathlib.Omega.{arith}
use Rattle.descriptor.specs.Sizes.{size_of}
use Rattle.attribute.specs.Laws.{size_by}
use Rattle.attribute.proofs.size_at.Goals as goal

pub returns : goal.returns
returns c =
    let a = c.args in
    ((c.size.ensures ∙ λ i. size_of (c.u8_at.ensures i) (c.u8_at-2.ensures i)) ∙ size_by a.s.now a.at, omega arith)
