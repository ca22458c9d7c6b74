use mathlib.Core.Path.{sym, ap, ◌∙◌}
use Rattle.point_bytes.specs.Bytes.{nir_bytes}
use Rattle.point_bytes.proofs.nir_bytes.Goals as goal

pub returns-in-Some : goal.returns-in-Some
returns-in-Some c = c.to_le_bytes.ensures ∙ sym (ap nir_bytes c.in-Some.is)
