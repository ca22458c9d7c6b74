use mathlib.Core.Path.{◌∙◌}
use Rattle.refusal.proofs.Tests.{tests}
use Rattle.capi_point.specs.Numbers.{waveform_from, maybe_waveform_from}
use Rattle.capi_point.proofs.maybe_waveform_from.Goals as goal

pub returns-then-nth-eq0 : goal.returns-then-nth-eq0
unfolding maybe_waveform_from
returns-then-nth-eq0 c = rw (← c.nth.ensures) (search tests)

pub returns : goal.returns
unfolding maybe_waveform_from
returns c =
    let w =
    c.waveform_from.ensures ∙ (λ i. waveform_from (c.low8.ensures i) (c.nth-2.ensures i) (c.low32-5.ensures i)
    (record { location = c.low32.ensures i; x_t = c.low32-2.ensures i; y_t = c.low32-3.ensures i; z_t = c.low32-4.ensures i })) in
    rw (w, ← c.nth.ensures) (search tests)
