use mathlib.Core.List.{[], ◌∷◌}
use mathlib.Core.Path.{◌∙◌}
use Rattle.words.proofs.refuse.Goals as goal

pub returns : goal.returns
returns c =
    let told = c.row-told in
    c.tell.ensures ∙ (λ i. (told.ensures i).number ∷ (told.ensures i).value ∷ (told.ensures i).«record» ∷ [])
