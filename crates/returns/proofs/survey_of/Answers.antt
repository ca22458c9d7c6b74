use Rattle.std.specs.Prelude.{Result}
use Rattle.refusal.specs.declared.Refused.{Refused}
use Prim.Native.Nat.{◌+◌, ◌*◌, ◌≤◌}
use mathlib.Core.Path.{◌≡◌, sym, ap, subst, ◌∙◌}
use lib.ListN.{length}
use Rattle.format.specs.Fields.{record_bytes}
use Rattle.walker.specs.declared.Place.{Place}
use Rattle.returns.specs.Returns.{survey_by, survey_of}
use Rattle.returns.specs.Laws.{begun_end}
use Rattle.returns.proofs.survey_of.Goals as goal
use Rattle.returns.proofs.survey_of.Goals.{After-begin-begun}

-- by what the walker starts from
module _ (m : After-begin-begun) where
  by_start_lem : {x : Result Unit Refused} → m.begin-begun.result.start ≡ x → survey_by m.begin-begun.result m.args.file.now x ≡ survey_of m.args.allowance m.args.file.now
  unfolding survey_of
  by_start_lem e =
      ap (survey_by m.begin-begun.result m.args.file.now) (sym e)
      ∙ ap (λ (p : Place). survey_by p m.args.file.now p.start) m.begin-begun.ensures

pub survey_at-requires : goal.survey_at-requires
survey_at-requires c =
    let g = c.args in
    let accepted = ap (λ (p : Place). p.start) (sym c.begin-begun.ensures) ∙ c.in-Ok.is in
    subst (λ (p : Place). p.at + p.count * record_bytes p.format ≤ length g.file.now) (sym c.begin-begun.ensures) (begun_end g.allowance g.file.now accepted)

pub returns-in-Ok : goal.returns-in-Ok
returns-in-Ok c = c.survey_at.ensures ∙ by_start_lem (goal.at.returns-in-Ok c).After-begin-begun c.in-Ok.is

pub returns-in-Err : goal.returns-in-Err
returns-in-Err c = c.survey_at-in-Err.ensures ∙ by_start_lem (goal.at.returns-in-Err c).After-begin-begun c.in-Err.is
