use Rattle.std.specs.Prelude.{ℕ, Result}
use Rattle.refusal.specs.declared.Refused.{Refused}
use mathlib.Core.Path.{◌≡◌, ap, sym, ◌∙◌}
use Rattle.reclassify.specs.Reclassify.{reclassified_of}
use Rattle.capi_reclassify.specs.Rows.{reclassified_row}
use Rattle.capi_reclassify.proofs.las_reclassify.Goals as goal
use Rattle.capi_reclassify.proofs.las_reclassify.Goals.{After-reclassify}

-- the row of the answer, whichever it is
told : (c : After-reclassify) (x : Result ℕ Refused) → let a = c.args in c.reclassify.result ≡ x → reclassified_row (x, c.reclassify.new.file) ≡ reclassified_row (reclassified_of a.allowance a.point a.class a.file.now)
told c x is = ap (λ (y : Result ℕ Refused). reclassified_row (y, c.reclassify.new.file)) (sym is) ∙ ap reclassified_row c.reclassify.ensures

pub returns-in-Ok : goal.returns-in-Ok
returns-in-Ok c =
    (λ i. (c.tell.ensures i, c.reclassify.new.file)) ∙ told (goal.at.returns-in-Ok c).After-reclassify _ c.in-Ok.is

pub returns-in-Err : goal.returns-in-Err
returns-in-Err c =
    (λ i. (c.refuse.ensures i, c.reclassify.new.file)) ∙ told (goal.at.returns-in-Err c).After-reclassify _ c.in-Err.is
