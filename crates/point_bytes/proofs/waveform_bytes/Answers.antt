use mathlib.Core.Path.{sym, ap, ◌∙◌}
use Rattle.point_bytes.specs.Bytes.{waveform_bytes}
use Rattle.point_bytes.proofs.waveform_bytes.Goals as goal

pub returns-in-Some : goal.returns-in-Some
returns-in-Some c = c.some_waveform_bytes.ensures ∙ sym (ap waveform_bytes c.in-Some.is)
