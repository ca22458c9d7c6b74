use Rattle.std.specs.Prelude.{Ok}
use Prim.Native.Nat.{ℕ, ◌+◌}
use mathlib.Core.List.{List}
use mathlib.Core.Path.{◌≡◌, ap, sym, ◌∙◌}
use native.Mathlib.Omega.{arith}
use borrow.Author.Tests.{le-leb}
use lib.ListN.{length}
use Rattle.lent.specs.Laws.{then_tail}
use Rattle.refusal.proofs.Tests.{tests}
use Rattle.header.specs.Laws.{known}
use Rattle.header_write.specs.Wrote.{wrote_by}
use Rattle.header_write.specs.Table.{stored-block, length-block}
use Rattle.header_write.specs.Bytes.{block}
use Rattle.header_write.proofs.write_sized.Goals as goal

pub returns-then-dst-wanted : goal.returns-then-dst-wanted
unfolding wrote_by
returns-then-dst-wanted c = search tests

pub returns : goal.returns
unfolding wrote_by
returns c =
    let a = c.args in
    let wrote = c.write_block in
    let size : length (block a.h) ≡ a.n = length-block a.h wrote.ensures ∙ sym (known a.h.version a.n (sym c.requires)).2 in
    rw (le-leb _ _ c.if-dst-wanted.false)
    (ap (λ (l : List ℕ). (Ok (a.n + length a.padding.now), l))
    (then_tail a.dst.now (block a.h) a.padding.now wrote.new.dst c.put.new.dst a.n c.put.result size (omega arith) (stored-block a.h wrote.ensures) c.put.ensures))
