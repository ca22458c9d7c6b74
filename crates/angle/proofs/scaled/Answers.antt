use mathlib.Core.Path.{ap, ◌∙◌}
use mathlib.Core.List.{List}
use lib.IntN.{ℤ}
use mir.Syntax.{w8, w16}
use mir.Val.{of_z, to_z}
use Rattle.le.proofs.Twos.{kept}
use Rattle.angle.specs.Table.{entry_of, scaled_table, table_rule}
use Rattle.angle.proofs.scaled.Goals as goal

pub returns : goal.returns
returns c =
    let r = c.args.r in
    kept w16 _ c.entry.type_inv ∙ c.entry.ensures
    ∙ ap (λ (t : List ℤ). entry_of t (to_z w8 (of_z w8 r))) c.scaled_table-table.ensures
    ∙ ap (entry_of scaled_table) (kept w8 r c.ranges.r.sfits) ∙ table_rule r c.ranges.r
