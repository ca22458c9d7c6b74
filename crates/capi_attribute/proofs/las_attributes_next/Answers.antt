use Rattle.std.specs.Prelude.{Option}
use mathlib.Core.Path.{◌≡◌, sym, ap, ◌∙◌}
use mathlib.Core.Bool.{true}
use mathlib.Core.List.{[], ◌∷◌}
use Rattle.attribute.specs.declared.Step.{Step}
use Rattle.attribute.specs.Attributes.{next_of}
use Rattle.capi_attribute.specs.Rows.{stepped, next_row}
use Rattle.capi_attribute.proofs.las_attributes_next.Goals as goal
use Rattle.capi_attribute.proofs.las_attributes_next.Goals.{After-next}

-- by the step that the call made
told : (c : After-next) {x : Option Step} → c.next.result ≡ x → (let a = c.args in stepped x a.attributes.now a.attribute.now a.span.now ≡ next_row a.file.now a.attributes.now a.attribute.now a.span.now)
unfolding next_row
told c is =
    let a = c.args in
    ap (λ (x : Option Step). stepped x a.attributes.now a.attribute.now a.span.now) (sym is ∙ c.next.ensures ∙ ap (next_of a.file.now) c.place_from.ensures)

pub returns-in_default : goal.returns-in_default
returns-in_default c = told (goal.at.returns-in_default c).After-next c.in_default.is

pub returns : goal.returns
returns c =
    let d = c.in-Some.step.descriptor ∷ 192 ∷ [] in
    (λ i. (true, c.place_numbers.ensures i, c.attribute_numbers.ensures i, d)) ∙ told (goal.at.returns c).After-next c.in-Some.is
