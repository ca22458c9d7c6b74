use Rattle.std.specs.Prelude.{Result}
use Rattle.refusal.specs.declared.Refusal.{Refusal}
use Prim.Native.Nat.{ℕ}
use mathlib.Core.Path.{◌≡◌, sym, ap, ◌∙◌}
use mathlib.Core.List.{[], ◌∷◌}
use Rattle.attribute.specs.declared.Attribute.{Attribute}
use Rattle.attribute_value.specs.Value.{bits_of}
use Rattle.capi_attribute.specs.Rows.{attribute_from, value_by, value_row}
use Rattle.capi_attribute.proofs.las_attribute_value.Goals as goal
use Rattle.capi_attribute.proofs.las_attribute_value.Goals.{After-place}

-- the row of the place, wherever it is
told : (c : After-place) (x : Result ℕ Refusal) → let a = c.args in let b = c.attribute_from-a.result in c.place.result ≡ x → value_by a.span.now b.size (bits_of b a.point a.file.now) x ≡ value_row a.span.now (attribute_from a.attribute.now) a.point a.file.now
unfolding value_row
told c x is =
    let a = c.args in
    let b = c.attribute_from-a.result in
    ap (value_by a.span.now b.size (bits_of b a.point a.file.now)) (sym is ∙ c.place.ensures)
    ∙ ap (λ (b : Attribute). value_row a.span.now b a.point a.file.now) c.attribute_from-a.ensures

pub returns-in-Ok : goal.returns-in-Ok
returns-in-Ok c =
    let d = c.in-Ok.at ∷ c.attribute_from-a.result.size ∷ [] in
    (λ i. (c.tell.ensures i, d)) ∙ ap (λ (n : ℕ). (0 ∷ n ∷ 0 ∷ [], d)) c.bits.ensures ∙ told (goal.at.returns-in-Ok c).After-place _ c.in-Ok.is

pub returns-in-Err : goal.returns-in-Err
returns-in-Err c =
    (λ i. (c.refuse.ensures i, c.args.span.now)) ∙ told (goal.at.returns-in-Err c).After-place _ c.in-Err.is
