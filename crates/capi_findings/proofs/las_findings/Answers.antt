use Rattle.std.specs.Prelude.{ℕ, Result}
use Rattle.refusal.specs.declared.Refused.{Refused}
use mathlib.Core.Path.{◌≡◌, ap, sym, ◌∙◌}
use Rattle.findings.specs.Answer.{findings_of}
use Rattle.capi_findings.specs.Rows.{findings_row}
use Rattle.capi_findings.proofs.las_findings.Goals as goal
use Rattle.capi_findings.proofs.las_findings.Goals.{After-findings}

-- the row of the answer, whichever it is
told : (c : After-findings) (x : Result ℕ Refused) → let a = c.args in c.findings.result ≡ x → findings_row (x, c.findings.new.out) ≡ findings_row (findings_of a.allowance a.file.now a.out.now)
told c x is = ap (λ (y : Result ℕ Refused). findings_row (y, c.findings.new.out)) (sym is) ∙ ap findings_row c.findings.ensures

pub returns-in-Ok : goal.returns-in-Ok
returns-in-Ok c =
    (λ i. (c.tell.ensures i, c.findings.new.out)) ∙ told (goal.at.returns-in-Ok c).After-findings _ c.in-Ok.is

pub returns-in-Err : goal.returns-in-Err
returns-in-Err c =
    (λ i. (c.refuse.ensures i, c.findings.new.out)) ∙ told (goal.at.returns-in-Err c).After-findings _ c.in-Err.is
