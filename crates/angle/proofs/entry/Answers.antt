use Prim.Native.Nat.{ℕ, ◌+◌, ◌%◌}
use mathlib.Core.Path.{◌≡◌, ap, ◌∙◌}
use mathlib.Core.List.{List}
use borrow.Author.Rules.{rules}
use lib.IntN.{ℤ, pos}
use lib.ListN.{get_or}
use mir.Syntax.{w8, w16}
use mir.Val.{of_z, to_z}
use Rattle.le.proofs.Twos.{kept}
use Rattle.angle.specs.Table.{entry_of}
use Rattle.angle.proofs.entry.Goals as goal

pub returns : goal.returns
unfolding entry_of
returns c =
    let r = c.args.r in
    let t : List ℤ = c.args.table.now in
    let place = (c.cast_unsigned.result + 128) % 256 in
    let same : to_z w16 (of_z w16 (get_or t place (pos 0))) ≡ get_or t place (pos 0) = search rules in
    same ∙ ap (λ (k : ℕ). get_or t ((k + 128) % 256) (pos 0)) (c.cast_unsigned.ensures ∙ ap (of_z w8) (kept w8 r c.ranges.r.sfits))
