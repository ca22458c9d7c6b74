use Rattle.store.proofs.Copied.{copied, none}
use Rattle.store.proofs.bytes_at.Goals as goal

pub returns-then-at-s : goal.returns-then-at-s
returns-then-at-s g c = copied g.row.N _ _ c.set_bytes.ensures

pub returns-else-at-s : goal.returns-else-at-s
returns-else-at-s g c = none g.row.N _ _ c.if-at-s.false
