use Rattle.std.specs.Prelude.{Result}
use Rattle.reclassify.specs.declared.Change.{Change}
use Rattle.refusal.specs.declared.Refused.{Refused}
use mathlib.Core.Path.{◌≡◌, ap, sym, ◌∙◌}
use Rattle.reclassify.specs.Reclassify.{asked_of}
use Rattle.capi_reclassify.specs.Rows.{change_numbers, asked_row}
use Rattle.capi_reclassify.proofs.las_reclassify_ask.Goals as goal
use Rattle.capi_reclassify.proofs.las_reclassify_ask.Goals.{After-ask}

-- the row of the answer, whichever it is
told : (c : After-ask) (x : Result Change Refused) → let a = c.args in c.ask.result ≡ x → asked_row x a.change.now ≡ asked_row (asked_of a.allowance a.point a.class a.file.now) a.change.now
told c x is =
    let a = c.args in
    ap (λ (y : Result Change Refused). asked_row y a.change.now) (sym is ∙ c.ask.ensures)

pub returns-in-Ok : goal.returns-in-Ok
unfolding change_numbers
returns-in-Ok c =
    (λ i. (c.tell.ensures i, change_numbers c.in-Ok.c)) ∙ told (goal.at.returns-in-Ok c).After-ask _ c.in-Ok.is

pub returns-in-Err : goal.returns-in-Err
returns-in-Err c =
    (λ i. (c.refuse.ensures i, c.args.change.now)) ∙ told (goal.at.returns-in-Err c).After-ask _ c.in-Err.is
