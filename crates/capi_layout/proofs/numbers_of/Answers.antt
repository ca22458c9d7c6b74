use mathlib.Core.List.{[], ◌∷◌}
use Rattle.layout.specs.Placed.{placed, laid}
use Rattle.capi_layout.specs.Numbers.{layout_numbers}
use Rattle.capi_layout.proofs.numbers_of.Goals as goal

-- A name for each call's place, then place and bytes of the thirteen fields in order.
pub returns : goal.returns
unfolding layout_numbers
returns c =
    let f = c.args.f in
    let layout = laid f c.for_format-layout.ensures in
    let at = placed f c.places_for-at.ensures in
    λ i.
    0 ∷ c.bytes.ensures i ∷
    4 ∷ c.bytes-2.ensures i ∷
    8 ∷ c.bytes-3.ensures i ∷
    12 ∷ c.bytes-4.ensures i ∷
    14 ∷ c.bytes-5.ensures i ∷
    layout.user_data i ∷ c.bytes-6.ensures i ∷
    layout.angle i ∷ c.bytes-7.ensures i ∷
    at.source i ∷ c.bytes-8.ensures i ∷
    at.time i ∷ c.bytes-9.ensures i ∷
    at.color i ∷ c.bytes-10.ensures i ∷
    at.nir i ∷ c.bytes-11.ensures i ∷
    at.waveform i ∷ c.bytes-12.ensures i ∷
    at.extra i ∷ c.bytes-13.ensures i ∷ []
