use mathlib.Core.Path.{sym, ap, ◌∙◌}
use mathlib.Core.List.{◌++◌}
use Rattle.point_bytes.specs.Bytes.{color_bytes}
use Rattle.point_bytes.proofs.Split.{two}
use Rattle.point_bytes.proofs.color_bytes.Goals as goal

pub returns-in-Some : goal.returns-in-Some
returns-in-Some c =
    (λ i. two (c.to_le_bytes.ensures i) ++ (two (c.to_le_bytes-in-Some.ensures i) ++ two (c.to_le_bytes-in-Some-2.ensures i))) ∙ sym (ap color_bytes c.in-Some.is)
