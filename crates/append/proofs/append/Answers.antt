use Rattle.std.proofs.lemmas.Result.{err_from_is_err_and}
use Rattle.std.specs.Prelude.{Result, Ok}
use Rattle.refusal.specs.declared.Refused.{Refused}
use mathlib.Core.Path.{◌≡◌, ap, sym, ◌∙◌}
use Rattle.offer.specs.declared.Offer.{Offer}
use Rattle.append.specs.declared.Appended.TheVariants.{Added}
use Rattle.append.specs.Append.{appended_by, appended_of}
use Rattle.append.proofs.append.Goals as goal
use Rattle.append.proofs.append.Goals.{After-judge}

-- what is done goes by the offer
done : (c : After-judge) (o : Result Offer Refused) → let a = c.args in c.judge.result ≡ o → appended_by o a.records.now a.bounds a.file.now ≡ appended_of a.allowance a.records.now a.n a.bounds a.believed a.file.now
unfolding appended_of
done c o is =
    let a = c.args in
    ap (λ (x : Result Offer Refused). appended_by x a.records.now a.bounds a.file.now) (sym is ∙ c.judge.ensures)

pub returns-in-Add : goal.returns-in-Add
returns-in-Add c =
    (λ i. (Ok Added, c.store_all.ensures i))
    ∙ done (goal.at.returns-in-Add c).After-judge _ (c.in_ok-offer.was ∙ ap Ok c.in-Add.is)

pub returns-in-AlreadyIn : goal.returns-in-AlreadyIn
returns-in-AlreadyIn c = done (goal.at.returns-in-AlreadyIn c).After-judge _ (c.in_ok-offer.was ∙ ap Ok c.in-AlreadyIn.is)

pub returns-in_err-offer : goal.returns-in_err-offer
returns-in_err-offer c =
    let p = err_from_is_err_and c.from_residual.result c.from_residual.ensures.1 in
    rw (p.1, p.2) (done (goal.at.returns-in_err-offer c).After-judge _ c.in_err-offer.was)
