use Rattle.std.specs.Prelude.{Ok}
use mathlib.Core.Path.{ap, sym, ◌∙◌}
use mathlib.Core.List.{List}
use Prim.Native.Nat.{ℕ}
use native.Mathlib.Omega.{arith}
use borrow.Author.Rules.{rules}
use Rattle.descriptor.specs.Descriptor.{Texts}
use Rattle.descriptor.specs.Written.{type_refused, no_room, room, stored_is}
use Rattle.descriptor.proofs.Descriptor.write_to.Goals as goal
use Rattle.descriptor.proofs.Descriptor.write_to.Goals.{Start}

-- the lengths of the arrays
texts : (s : Start) → Texts s.args.self
texts s = search rules

pub returns-then-self-gt10 : goal.returns-then-self-gt10
returns-then-self-gt10 c = sym (type_refused c.args.self c.args.dst.now c.if-self-gt10.true)

pub returns-then-dst-lt192 : goal.returns-then-dst-lt192
returns-then-dst-lt192 c =
    sym (no_room c.args.self c.args.dst.now (texts (goal.at.returns-then-dst-lt192 c).Start) (omega arith) c.if-dst-lt192.true)

pub returns : goal.returns
returns c =
    let left = stored_is c.args.self c.args.dst.now (texts (goal.at.returns c).Start) (omega arith) c.store_contents.ensures in
    ap (λ (d : List ℕ). (Ok 192, d)) left ∙ sym (room c.args.self c.args.dst.now (texts (goal.at.returns c).Start) (omega arith) (omega arith))
