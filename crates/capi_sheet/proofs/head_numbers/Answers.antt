use mathlib.Core.Path.{ap, sym, ◌∙◌}
use mathlib.Core.List.{[], ◌∷◌}
use borrow.Author.Rules.{rules}
use mir.Syntax.{w32}
use mir.Val.{of_z}
use Rattle.le.proofs.Twos.{kept}
use Rattle.capi_sheet.specs.Numbers.{head_numbers}
use Rattle.capi_sheet.proofs.head_numbers.Goals as goal

pub returns-in-None : goal.returns-in-None
returns-in-None c = let a = c.args in ap (head_numbers a.files a.points) (sym c.in-None.is)

pub returns-in-Some : goal.returns-in-Some
returns-in-Some c =
    let a = c.args in
    let e = c.in-Some.e in
    let x = c.bits.ensures ∙ ap (of_z w32) (kept w32 e.x.min (search rules)) in
    let x2 = c.bits-in-Some.ensures ∙ ap (of_z w32) (kept w32 e.x.max (search rules)) in
    let y = c.bits-in-Some-2.ensures ∙ ap (of_z w32) (kept w32 e.y.min (search rules)) in
    let y2 = c.bits-in-Some-3.ensures ∙ ap (of_z w32) (kept w32 e.y.max (search rules)) in
    let z = c.bits-in-Some-4.ensures ∙ ap (of_z w32) (kept w32 e.z.min (search rules)) in
    let z2 = c.bits-in-Some-5.ensures ∙ ap (of_z w32) (kept w32 e.z.max (search rules)) in
    (λ i. a.files ∷ a.points ∷ 1 ∷ x i ∷ x2 i ∷ y i ∷ y2 i ∷ z i ∷ z2 i ∷ []) ∙ ap (head_numbers a.files a.points) (sym c.in-Some.is)
