use mathlib.Core.Path.{◌∙◌}
use borrow.Author.Rules.{rules}
use lib.ListN.{drop, length-drop}
use Rattle.lent.specs.Laws.{placed}
use Rattle.extents.specs.Extents.{points_end}
use Rattle.migrate.specs.Migrate.{front_of}
use Rattle.migrate.specs.Laws.{front_long, around_laid, to_the_end}
use Rattle.migrate.proofs.write_around.Goals as goal

pub returns : goal.returns
returns c =
    let a = c.args in
    let rest = drop (points_end a.o) a.file.now in
    let same = to_the_end a.file.now (points_end a.o) _ c.end_of-end.ensures in
    rw same
    (around_laid a.dst.now (front_of a.new a.o a.file.now) rest _ _ _ a.to
    (front_long a.new a.o a.file.now a.dst.now c.requires.front) c.requires.points (rw length-drop c.requires.rest) c.write_front.ensures (placed _ _ (search rules) c.put.ensures ∙ same))
