use Rattle.std.proofs.lemmas.Result.{err_from_is_err_and}
use mathlib.Core.Path.{ap, sym, subst, ◌∙◌}
use mathlib.Core.Bool.{true}
use Rattle.judge.specs.Laws.{Ready, new_ready}
use Rattle.convert.specs.Run.{done_of, to_new_of}
use Rattle.convert.proofs.to_new.Goals as goal

-- what the question names is ready to be written
pub convert-requires : goal.convert-requires
convert-requires c =
    let a = c.args in
    subst (Ready true a.count a.src.now) (sym c.ask_new.ensures ∙ c.in_ok-run.was) (new_ready a.format a.extra a.count a.src.now)

pub returns : goal.returns
unfolding to_new_of
returns c =
    let a = c.args in
    c.convert.ensures ∙ ap (done_of true a.count a.src.now a.dst.now) (sym c.in_ok-run.was ∙ c.ask_new.ensures)

-- what does not go is refused as it was judged
pub returns-in_err-run : goal.returns-in_err-run
unfolding to_new_of
returns-in_err-run c =
    let a = c.args in
    let p = err_from_is_err_and c.from_residual.result c.from_residual.ensures.1 in
    rw (p.1, p.2) (ap (done_of true a.count a.src.now a.dst.now) (sym c.in_err-run.was ∙ c.ask_new.ensures))
