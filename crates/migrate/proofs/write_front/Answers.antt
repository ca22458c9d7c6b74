use borrow.Author.Rules.{rules}
use Rattle.lent.specs.Laws.{placed}
use Rattle.migrate.specs.Laws.{front-written}
use Rattle.migrate.proofs.write_front.Goals as goal

pub returns : goal.returns
returns c =
    let a = c.args in
    front-written a.new a.o a.file.now a.dst.now c.requires _ _ _ (rw c.padding.ensures at c.write_to.ensures) (placed _ _ (search rules) c.put.ensures)
