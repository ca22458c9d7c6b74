use Prim.Native.Nat.{ℕ}
use Rattle.std.specs.Prelude.{Ok}
use mathlib.Core.Path.{ap, sym, ◌∙◌}
use mathlib.Core.List.{List, ◌++◌}
use native.Mathlib.Omega.{arith}
use borrow.Author.Tests.{le-ltb, lt-ltb}
use lib.ListN.{length, drop}
use Rattle.convert.specs.Run.{images_of}
use Rattle.convert.specs.Laws.{takes_all}
use Rattle.convert.proofs.convert.Goals as goal

-- without room for its bytes it is refused
pub returns-then-dst-run : goal.returns-then-dst-run
returns-then-dst-run c =
    rw (c.into.ensures, lt-ltb (length c.args.dst.now) c.args.run.bytes c.if-dst-run.true)

pub write-requires : goal.write-requires
write-requires c =
    let a = c.args in
    let g = c.requires in
    (g.0, g.1.there, omega (arith, g.2, c.if-dst-run.false), takes_all a.up a.run.plan g.0 a.count a.src.now g.1.records)

pub returns : goal.returns
returns c =
    let a = c.args in
    ap (λ (l : List ℕ). (Ok a.run.bytes, l)) (c.write.ensures ∙ ap (λ (n : ℕ). images_of a.up a.run.plan a.count a.src.now ++ drop n a.dst.now) (sym c.requires.2))
    ∙ sym (rw (le-ltb (length a.dst.now) a.run.bytes c.if-dst-run.false))
