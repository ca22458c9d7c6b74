use Prim.Native.Nat.{ℕ, ◌-◌, ◌*◌, ◌/◌}
use mathlib.Core.Path.{refl, ◌∙◌}
use mathlib.Core.List.{append-nil}
use native.Mathlib.Omega.{arith}
use borrow.Author.Rules.{rules}
use lib.ListN.{replicate}
use Rattle.lent.specs.Laws.{whole}
use Rattle.fields.specs.Table.{joined, Stored, store, done}
use Rattle.fields.specs.Laws.{length-joined, stored-wide, stored-joined}
use Rattle.descriptor.specs.Layout.{Field, width, place}
use Rattle.descriptor.specs.Descriptor.{Texts, field_bytes}
use Rattle.capi_descriptor.specs.Rows.{deprecated_fields, deprecated_of}
use Rattle.capi_descriptor.proofs.deprecated_of.Goals as goal
use Rattle.capi_descriptor.proofs.deprecated_of.Goals.{Start}

-- where a deprecated field stands among them: they are 24 bytes apart in a descriptor, and 16 here
abbrev among : Field → ℕ
among f = (place f - 48) / 24 * 16

-- the lengths of the arrays
texts : (s : Start) → Texts s.args.v
texts s = search rules

pub returns : goal.returns
unfolding deprecated_of
returns c =
    let t = texts (goal.at.returns c).Start in
    let g = field_bytes c.args.v in
    let stored : Stored width among g (replicate 80 0) deprecated_fields c.set_bytes-5.new.d =
    store c.set_bytes.ensures t.1
    (store c.set_bytes-2.ensures t.2
    (store c.set_bytes-3.ensures t.3
    (store c.set_bytes-4.ensures t.4
    (store c.set_bytes-5.ensures t.5 done)))) in
    let all = joined g deprecated_fields in
    let long = length-joined width g deprecated_fields (stored-wide width g among stored) in
    stored-joined width g among deprecated_fields 0 refl stored ∙ whole (replicate 80 0) all 80 long (omega arith) ∙ append-nil all
