use mathlib.Core.Path.{sym, ap, ◌∙◌}
use Rattle.le.specs.Le.{bytes}
use Rattle.point_bytes.specs.Bytes.{time_bytes}
use Rattle.point_bytes.proofs.time_bytes.Goals as goal

pub returns-in-Some : goal.returns-in-Some
returns-in-Some c = c.to_le_bytes.ensures ∙ ap (bytes 8) c.to_bits.ensures ∙ sym (ap time_bytes c.in-Some.is)
