use Rattle.std.proofs.lemmas.Result.{err_from_is_err_and}
use Rattle.std.specs.Prelude.{Result, Ok}
use Rattle.reclassify.specs.declared.Change.{Change}
use Rattle.refusal.specs.declared.Refused.{Refused}
use mathlib.Core.Path.{◌≡◌, ap, sym, ◌∙◌}
use Rattle.reclassify.specs.Reclassify.{reclassified_by, reclassified_of}
use Rattle.reclassify.proofs.reclassify.Goals as goal
use Rattle.reclassify.proofs.reclassify.Goals.{After-ask}

-- what is done goes by what is answered
done : (c : After-ask) (x : Result Change Refused) → let a = c.args in c.ask.result ≡ x → reclassified_by x a.file.now ≡ reclassified_of a.allowance a.point a.class a.file.now
unfolding reclassified_of
done c x is =
    let a = c.args in
    ap (λ (x : Result Change Refused). reclassified_by x a.file.now) (sym is ∙ c.ask.ensures)

pub returns : goal.returns
returns c = (λ i. (Ok c.in_ok-change.change.class, c.set_u8.ensures i)) ∙ done (goal.at.returns c).After-ask _ c.in_ok-change.was

pub returns-in_err-change : goal.returns-in_err-change
returns-in_err-change c =
    let p = err_from_is_err_and c.from_residual.result c.from_residual.ensures.1 in
    rw (p.1, p.2) (done (goal.at.returns-in_err-change c).After-ask _ c.in_err-change.was)
