use Rattle.std.specs.Prelude.{Ok, Err}
use mathlib.Core.Path.{◌≡◌, sym, ap, ◌∙◌}
use mathlib.Core.List.{◌++◌}
use native.Mathlib.Omega.{arith}
use Rattle.std.proofs.lemmas.Result.{err_from_is_err_and}
use Rattle.refusal.specs.declared.Refused.{Refused}
use Rattle.cursor.specs.Cursor.{started_of}
use Rattle.findings.specs.Answered.{refused_is, begun, no_room, room}
use Rattle.findings.proofs.findings.Goals as goal
use Rattle.findings.proofs.findings.Goals.{In_ok-c}

-- the cursor was started
at : (x : In_ok-c) → started_of x.args.allowance x.args.file.now ≡ Ok x.in_ok-c.c
at x = sym x.start.ensures ∙ x.in_ok-c.was

pub returns-in_err-c : goal.returns-in_err-c
returns-in_err-c c =
    let p = err_from_is_err_and c.from_residual.result c.from_residual.ensures.1 in
    rw (p.1, p.2) (refused_is _ _ c.args.out.now (sym c.start.ensures ∙ c.in_err-c.was))

pub tell_parts-n-requires : goal.tell_parts-n-requires
tell_parts-n-requires c = begun _ _ (at (goal.at.tell_parts-n-requires c).In_ok-c) c.survey_of-survey.ensures

pub returns-then-out-n : goal.returns-then-out-n
returns-then-out-n c =
    ap (λ (r : Refused). (Err r, c.tell_parts-n.new.out ++ c.args.out.now)) c.into.ensures ∙ no_room _ _ (at (goal.at.returns-then-out-n c).In_ok-c) c.survey_of-survey.ensures (omega (arith, c.well_formed.0.0, c.well_formed.0.1)) c.tell_parts-n.ensures _ c.if-out-n.true

pub tell_parts-requires : goal.tell_parts-requires
tell_parts-requires c = begun _ _ (at (goal.at.tell_parts-requires c).In_ok-c) c.survey_of-survey.ensures

pub returns : goal.returns
returns c =
    room _ _ (at (goal.at.returns c).In_ok-c) c.survey_of-survey.ensures (omega (arith, c.well_formed.0.0, c.well_formed.0.1)) c.tell_parts-n.ensures _ c.if-out-n.false c.tell_parts.ensures
