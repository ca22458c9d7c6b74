use mathlib.Core.Path.{refl}
use borrow.Author.Rules.{rules}
use Rattle.lent.specs.Laws.{placed, copied}
use Rattle.point_write.proofs.put_at.Goals as goal

pub returns : goal.returns
returns c = copied c.args.dst.now c.args.bytes.now _ c.args.at _ refl c.requires (placed _ _ (search rules) c.put.ensures)
