use mathlib.Core.Path.{refl}
use borrow.Author.Rules.{rules}
use Rattle.fields.specs.Table.{store, done}
use Rattle.fields.specs.Laws.{stored-length}
use Rattle.descriptor.specs.Descriptor.{Texts}
use Rattle.descriptor.proofs.store_contents.Goals as goal
use Rattle.descriptor.proofs.store_contents.Goals.{Start}

-- Long since a descriptor has 16 fields, each stored by a call of its own.
-- the lengths of the arrays
texts : (s : Start) → Texts s.args.v
texts s = search rules

pub returns : goal.returns
returns c =
    let t = texts (goal.at.returns c).Start in
    store c.set_u16.ensures refl
    (store c.set_u8.ensures refl
    (store c.set_u8-2.ensures refl
    (store c.set_bytes.ensures t.0
    (store c.set_u32.ensures refl
    (store c.set_u64.ensures refl
    (store c.set_bytes-2.ensures t.1
    (store c.set_u64-2.ensures refl
    (store c.set_bytes-3.ensures t.2
    (store c.set_u64-3.ensures refl
    (store c.set_bytes-4.ensures t.3
    (store c.set_u64-4.ensures refl
    (store c.set_bytes-5.ensures t.4
    (store c.set_u64-5.ensures refl
    (store c.set_bytes-6.ensures t.5
    (store c.set_bytes-7.ensures t.6 done)))))))))))))))

pub shape_of-dst : goal.shape_of-dst
shape_of-dst c = stored-length _ _ _ (returns c)
