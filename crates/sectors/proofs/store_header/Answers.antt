use Prim.Native.Nat.{ℕ}
use mathlib.Core.Path.{◌≡◌, refl, ap, ◌∙◌}
use mathlib.Core.List.{List}
use borrow.Author.Rules.{rules}
use lib.ListN.{length}
use lib.Seq.{sets}
use Rattle.le.specs.Le.{bytes}
use Rattle.fields.specs.Table.{joined}
use Rattle.sectors.specs.Sectors.{by_return_of, with_header}
use Rattle.sectors.specs.Header.{length_header}
use Rattle.sectors.proofs.Run.{none, next, numbers}
use Rattle.sectors.proofs.store_header.Goals as goal
use Rattle.sectors.proofs.store_header.Goals.{Start}

-- what the type of the bounds says of them
six : (s : Start) → length s.args.bounds ≡ 6
six s = search rules

pub returns : goal.returns
unfolding with_header
returns c =
    let a = c.args in
    let by-return = numbers 4 (by_return_of a.sweep) 5 111 c.set_u32.new.d refl (next c.set_u32-2.ensures (next c.set_u32-3.ensures (next c.set_u32-4.ensures (next c.set_u32-5.ensures (next c.set_u32-6.ensures none))))) in
    let patterns = numbers 8 a.bounds 6 179 c.set_u32-6.new.d (six (goal.at.returns c).Start) (next c.set_u64.ensures (next c.set_u64-2.ensures (next c.set_u64-3.ensures (next c.set_u64-4.ensures (next c.set_u64-5.ensures (next c.set_u64-6.ensures none)))))) in
    patterns ∙ ap (λ (d : List ℕ). sets d 179 (joined (bytes 8) a.bounds)) (by-return ∙ ap (λ (d : List ℕ). sets d 111 (joined (bytes 4) (by_return_of a.sweep))) c.set_u32.ensures)

pub shape_of-file : goal.shape_of-file
shape_of-file c = ap length (returns c) ∙ length_header _ _ _
