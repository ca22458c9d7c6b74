use mathlib.Core.Path.{sym, ap, ◌∙◌}
use Rattle.std.proofs.lemmas.Result.{err_from_is_err_and}
use Rattle.std.specs.Prelude.{Result}
use Rattle.outline.specs.declared.Outline.{Outline}
use Rattle.refusal.specs.declared.Refused.{Refused}
use Rattle.keys.specs.Keys.{opened_file, opened_of}
use Rattle.keys.proofs.open.Goals as goal

pub returns-in_err-o : goal.returns-in_err-o
unfolding opened_of
returns-in_err-o c =
    let p = err_from_is_err_and c.from_residual.result c.from_residual.ensures.1 in
    rw (p.1, p.2) (ap (λ (o : Result Outline Refused). opened_file o c.args.file.now) (sym c.in_err-o.was ∙ c.«open».ensures))

pub returns : goal.returns
unfolding opened_of
returns c =
    rw (c.open_in.ensures, c.projection.ensures, c.projection-2.ensures, c.projection-3.ensures)
    (ap (λ (o : Result Outline Refused). opened_file o c.args.file.now) (sym c.in_ok-o.was ∙ c.«open».ensures))
