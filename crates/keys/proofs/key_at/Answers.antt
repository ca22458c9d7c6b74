use native.Mathlib.Omega.{arith}
use borrow.Author.Tests.{le-leb, lt-leb}
use Rattle.keys.specs.Keys.{key_at_of}
use Rattle.keys.proofs.key_at.Goals as goal

pub returns-then-keys-k : goal.returns-then-keys-k
unfolding key_at_of
returns-then-keys-k c = let a = c.args in rw (le-leb a.keys.count a.k (omega (arith, c.if-keys-k.true)))

pub returns : goal.returns
unfolding key_at_of
returns c =
    rw (c.told.ensures, c.entry_at-entry.ensures, c.bytes_of.ensures, lt-leb c.args.keys.count c.args.k (omega (arith, c.if-keys-k.false)))
