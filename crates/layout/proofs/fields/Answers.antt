use mathlib.Core.List.{[], ◌∷◌}
use Rattle.std.specs.Prelude.{Some}
use Rattle.format.specs.declared.Field.TheVariants.{X, Y, Z, Intensity, Flags, PointSourceId, ExtraBytes}
use Rattle.layout.specs.Layout.{slot_of, slots_of}
use Rattle.layout.proofs.fields.Goals as goal

-- slot by slot, as the calls told those that depend on the format
pub returns : goal.returns
unfolding slots_of slot_of
returns c =
    λ i.
    Some X ∷ Some Y ∷ Some Z ∷ Some Intensity ∷ Some Flags ∷
    Some (c.pick.ensures i) ∷
    Some (c.pick-2.ensures i) ∷
    Some PointSourceId ∷
    c.then_some.ensures i ∷ c.then_some-2.ensures i ∷ c.then_some-3.ensures i ∷ c.then_some-4.ensures i ∷ Some ExtraBytes ∷ []
