use mathlib.Core.Path.{sym, ap, ◌∙◌}
use Rattle.capi_point.specs.Numbers.{waveform_or}
use Rattle.capi_point.proofs.waveform_or.Goals as goal

pub returns-in-None : goal.returns-in-None
returns-in-None c = c.waveform_from.ensures ∙ sym (ap waveform_or c.in-None.is)
