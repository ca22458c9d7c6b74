use Rattle.std.specs.Prelude.{Result, Ok}
use Rattle.refusal.specs.declared.Refused.{Refused}
use mathlib.Core.Path.{◌≡◌, ap, sym, ◌∙◌}
use Rattle.offer.specs.declared.Offer.{Offer}
use Rattle.offer.specs.Offer.{offer_of}
use Rattle.capi_append.specs.Rows.{sweep_numbers, begun_row}
use Rattle.capi_append.proofs.las_append_begin.Goals as goal
use Rattle.capi_append.proofs.las_append_begin.Goals.{After-judge}

-- the row of the offer, whichever it is
told : (c : After-judge) (x : Result Offer Refused) → let a = c.args in c.judge.result ≡ x → begun_row x a.sweep.now ≡ begun_row (offer_of a.allowance a.records.now a.n a.believed a.file.now) a.sweep.now
told c x is =
    let a = c.args in
    ap (λ (y : Result Offer Refused). begun_row y a.sweep.now) (sym is ∙ c.judge.ensures)

pub returns-in-Ok-Add : goal.returns-in-Ok-Add
unfolding sweep_numbers
returns-in-Ok-Add c =
    (λ i. (c.tell.ensures i, sweep_numbers c.in-Ok-Add.w)) ∙ told (goal.at.returns-in-Ok-Add c).After-judge _ (c.in-Ok-Add.is ∙ ap Ok c.in-Ok-Add.field-0-is)

pub returns-in-Ok-AlreadyIn : goal.returns-in-Ok-AlreadyIn
returns-in-Ok-AlreadyIn c =
    (λ i. (c.tell-in-Ok-AlreadyIn.ensures i, c.args.sweep.now)) ∙ told (goal.at.returns-in-Ok-AlreadyIn c).After-judge _ (c.in-Ok-AlreadyIn.is ∙ ap Ok c.in-Ok-AlreadyIn.field-0-is)

pub returns-in-Err : goal.returns-in-Err
returns-in-Err c =
    (λ i. (c.refuse.ensures i, c.args.sweep.now)) ∙ told (goal.at.returns-in-Err c).After-judge _ c.in-Err.is
