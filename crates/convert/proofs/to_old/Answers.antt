use Rattle.std.proofs.lemmas.Result.{err_from_is_err_and}
use mathlib.Core.Path.{ap, sym, subst, ◌∙◌}
use mathlib.Core.Bool.{false}
use Rattle.judge.specs.Laws.{Ready, old_ready}
use Rattle.convert.specs.Run.{done_of, to_old_of}
use Rattle.convert.proofs.to_old.Goals as goal

-- what the question names is ready to be written
pub convert-requires : goal.convert-requires
convert-requires c =
    let a = c.args in
    subst (Ready false a.count a.src.now) (sym c.ask_old.ensures ∙ c.in_ok-run.was) (old_ready a.format a.extra a.count a.src.now)

pub returns : goal.returns
unfolding to_old_of
returns c =
    let a = c.args in
    c.convert.ensures ∙ ap (done_of false a.count a.src.now a.dst.now) (sym c.in_ok-run.was ∙ c.ask_old.ensures)

-- what does not go is refused as it was judged
pub returns-in_err-run : goal.returns-in_err-run
unfolding to_old_of
returns-in_err-run c =
    let a = c.args in
    let p = err_from_is_err_and c.from_residual.result c.from_residual.ensures.1 in
    rw (p.1, p.2) (ap (done_of false a.count a.src.now a.dst.now) (sym c.in_err-run.was ∙ c.ask_old.ensures))
