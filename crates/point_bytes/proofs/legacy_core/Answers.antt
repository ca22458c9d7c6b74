use mathlib.Core.Path.{ap, ◌∙◌}
use mathlib.Core.List.{◌∷◌, ◌++◌}
use lib.IntN.{ℤ}
use mir.Syntax.{w8, w32}
use mir.Val.{of_z}
use borrow.Author.Rules.{rules}
use Rattle.le.specs.Le.{bytes}
use Rattle.le.proofs.Twos.{kept}
use Rattle.point_bytes.specs.Bytes.{legacy_core_of}
use Rattle.point_bytes.proofs.Split.{two, four}
use Rattle.point_bytes.proofs.legacy_core.Goals as goal

pub returns : goal.returns
unfolding legacy_core_of
returns c =
    let p = c.args.point in
    let xs = c.to_le_bytes.ensures ∙ ap (λ (k : ℤ). bytes 4 (of_z w32 k)) (kept w32 p.x (search rules)) in
    let ys = c.to_le_bytes-2.ensures ∙ ap (λ (k : ℤ). bytes 4 (of_z w32 k)) (kept w32 p.y (search rules)) in
    let zs = c.to_le_bytes-3.ensures ∙ ap (λ (k : ℤ). bytes 4 (of_z w32 k)) (kept w32 p.z (search rules)) in
    let angle = c.cast_unsigned-rank.ensures ∙ ap (of_z w8) (kept w8 c.to_rank.result c.to_rank.type_inv ∙ c.to_rank.ensures) in
    λ i. four (xs i) ++ (four (ys i) ++ (four (zs i) ++ (two (c.to_le_bytes-4.ensures i) ++ (c.args.a ∷ c.args.b ∷ angle i ∷ p.user_data ∷ two (c.to_le_bytes-5.ensures i)))))
