use mathlib.Core.Path.{ap, ◌∙◌}
use mathlib.Core.List.{◌∷◌, ◌++◌}
use lib.IntN.{ℤ}
use mir.Syntax.{w16, w32}
use mir.Val.{of_z}
use borrow.Author.Rules.{rules}
use Rattle.le.specs.Le.{bytes}
use Rattle.le.proofs.Twos.{kept}
use Rattle.point_bytes.specs.Bytes.{three_list, core_of}
use Rattle.point_bytes.proofs.Split.{two, four}
use Rattle.point_bytes.proofs.extended_core.Goals as goal

pub returns : goal.returns
unfolding core_of
returns c =
    let p = c.args.point in
    let xs = c.to_le_bytes.ensures ∙ ap (λ (k : ℤ). bytes 4 (of_z w32 k)) (kept w32 p.x (search rules)) in
    let ys = c.to_le_bytes-2.ensures ∙ ap (λ (k : ℤ). bytes 4 (of_z w32 k)) (kept w32 p.y (search rules)) in
    let zs = c.to_le_bytes-3.ensures ∙ ap (λ (k : ℤ). bytes 4 (of_z w32 k)) (kept w32 p.z (search rules)) in
    let angle = c.to_le_bytes-5.ensures ∙ ap (λ (k : ℤ). bytes 2 (of_z w16 k)) (kept w16 c.to_scaled.result c.to_scaled.type_inv ∙ c.to_scaled.ensures) in
    λ i. four (xs i) ++ (four (ys i) ++ (four (zs i) ++ (two (c.to_le_bytes-4.ensures i) ++ (three_list (c.to_three_bytes-flags.ensures i) ++ (p.user_data ∷ (two (angle i) ++ two (c.to_le_bytes-6.ensures i)))))))
