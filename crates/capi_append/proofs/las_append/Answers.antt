use Rattle.std.specs.Prelude.{Result, Ok}
use Rattle.refusal.specs.declared.Refused.{Refused}
use mathlib.Core.Path.{◌≡◌, ap, sym, ◌∙◌}
use Rattle.append.specs.declared.Appended.{Appended}
use Rattle.append.specs.Append.{appended_of}
use Rattle.capi_append.specs.Rows.{appended_row}
use Rattle.capi_append.proofs.las_append.Goals as goal
use Rattle.capi_append.proofs.las_append.Goals.{After-append}

-- the row of the answer, whichever it is
told : (c : After-append) (x : Result Appended Refused) → let a = c.args in c.append.result ≡ x → appended_row (x, c.append.new.file) ≡ appended_row (appended_of a.allowance a.records.now a.n a.bounds.now a.believed a.file.now)
told c x is = ap (λ (y : Result Appended Refused). appended_row (y, c.append.new.file)) (sym is) ∙ ap appended_row c.append.ensures

pub returns-in-Ok-Added : goal.returns-in-Ok-Added
returns-in-Ok-Added c =
    (λ i. (c.tell.ensures i, c.append.new.file)) ∙ told (goal.at.returns-in-Ok-Added c).After-append _ (c.in-Ok-Added.is ∙ ap Ok c.in-Ok-Added.field-0-is)

pub returns-in-Ok-AlreadyIn : goal.returns-in-Ok-AlreadyIn
returns-in-Ok-AlreadyIn c =
    (λ i. (c.tell-in-Ok-AlreadyIn.ensures i, c.append.new.file)) ∙ told (goal.at.returns-in-Ok-AlreadyIn c).After-append _ (c.in-Ok-AlreadyIn.is ∙ ap Ok c.in-Ok-AlreadyIn.field-0-is)

pub returns-in-Err : goal.returns-in-Err
returns-in-Err c =
    (λ i. (c.refuse.ensures i, c.append.new.file)) ∙ told (goal.at.returns-in-Err c).After-append _ c.in-Err.is
