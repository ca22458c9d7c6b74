use Prim.Native.Nat.{◌<◌}
use mathlib.Core.Path.{◌≡◌, refl, ap, ◌∙◌}
use borrow.Author.Rules.{rules}
use lib.ListN.{length}
use lib.Seq.{sets}
use Rattle.le.specs.Laws.{one_byte}
use Rattle.fields.specs.Table.{store, done}
use Rattle.header_write.proofs.write_origin.Goals as goal
use Rattle.header_write.proofs.write_origin.Goals.{Start}

-- what the header's types say of it
module _ (s : Start) where
  version-fits : (s.args.h.version.major < 256) × (s.args.h.version.minor < 256)
  version-fits = search rules

  texts : (length s.args.h.guid ≡ 16) × (length s.args.h.system_identifier ≡ 32) × (length s.args.h.generating_software ≡ 32)
  texts = search rules

pub returns : goal.returns
returns c =
    let v = c.args.h.version in
    store c.set_bytes.ensures refl
    (store c.set_u16.ensures refl
    (store c.set_u16-2.ensures refl
    (store c.set_bytes-2.ensures (texts (goal.at.returns c).Start).0
    (store (c.set_u8.ensures ∙ ap (sets c.set_bytes-2.new.d 24) (one_byte v.major (version-fits (goal.at.returns c).Start).0)) refl
    (store (c.set_u8-2.ensures ∙ ap (sets c.set_u8.new.d 25) (one_byte v.minor (version-fits (goal.at.returns c).Start).1)) refl
    (store c.set_bytes-3.ensures (texts (goal.at.returns c).Start).1
    (store c.set_bytes-4.ensures (texts (goal.at.returns c).Start).2 done)))))))
