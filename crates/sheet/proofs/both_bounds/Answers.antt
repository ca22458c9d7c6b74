use Rattle.std.specs.Prelude.{Some}
use mathlib.Core.Path.{ap, sym, ◌∙◌}
use Rattle.sheet.specs.Sheet.{both_bounds}
use Rattle.sheet.proofs.both_bounds.Goals as goal

pub returns-in_default-b : goal.returns-in_default-b
returns-in_default-b c =
    sym (λ i. both_bounds (c.in-Some.is i) (c.in_default-b.is i))

pub returns : goal.returns
returns c =
    ap Some c.both_extents.ensures ∙ sym (λ i. both_bounds (c.in-Some.is i) (c.in-Some-b.is i))
