use mathlib.Core.Path.{ap, sym, ◌∙◌}
use Rattle.std.proofs.lemmas.Result.{err_from_is_err_and}
use Rattle.attribute.specs.Attributes.{begun_after, begun_of}
use Rattle.attribute.proofs.begin.Goals as goal

pub returns-in_err-o : goal.returns-in_err-o
unfolding begun_of
returns-in_err-o c =
    let p = err_from_is_err_and c.from_residual.result c.from_residual.ensures.1 in
    rw (p.1, p.2) (ap (begun_after c.args.file.now) (sym c.in_err-o.was ∙ c.open.ensures))

pub returns : goal.returns
unfolding begun_of
returns c = c.begin_in.ensures ∙ ap (begun_after c.args.file.now) (sym c.in_ok-o.was ∙ c.open.ensures)
