use mathlib.Core.Path.{sym, ◌∙◌}
use Rattle.std.proofs.lemmas.Result.{err_from_is_err_and}
use lib.ListN.{length}
use Rattle.column.specs.Stretch.{standing, column_is, column_refused}
use Rattle.column.proofs.read_column.Goals as goal

pub returns-in_err-stretch : goal.returns-in_err-stretch
returns-in_err-stretch g c =
    let a = c.args in
    let p = err_from_is_err_and c.from_residual.result c.from_residual.ensures.1 in
    rw (p.1, p.2) (column_refused a.allowance a.column a.first a.count a.file.now g.T.Entry.value a.dst.now (sym c.stretch_of.ensures ∙ c.in_err-stretch.was))

pub fill-requires : goal.fill-requires
fill-requires g c =
    let a = c.args in
    rw c.requires (standing a.allowance a.column a.first a.count a.file.now (length a.dst.now) (sym c.stretch_of.ensures ∙ c.in_ok-stretch.was))

pub returns : goal.returns
returns g c =
    let a = c.args in
    column_is a.allowance a.column a.first a.count a.file.now g.T.Entry.value a.dst.now (sym c.stretch_of.ensures ∙ c.in_ok-stretch.was) (rw c.requires at c.fill.ensures)
