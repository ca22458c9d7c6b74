use mathlib.Core.List.{[], ◌∷◌}
use Rattle.capi_walker.specs.Rows.{place_with}
use Rattle.capi_walker.proofs.numbers_with.Goals as goal

pub returns : goal.returns
unfolding place_with
returns c =
    let a = c.args in
    let p = a.place in
    let told = a.told in
    λ i. c.format_word.ensures i ∷ p.at ∷ p.left ∷ p.count ∷ told.number ∷ told.value ∷ told.«record» ∷ []
