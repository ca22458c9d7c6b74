use Rattle.std.specs.Prelude.{Result}
use mathlib.Core.Path.{◌≡◌, ap, sym, ◌∙◌}
use Rattle.std.proofs.lemmas.Result.{err_from_is_err_and}
use Rattle.refusal.specs.declared.Refused.{Refused}
use Rattle.sheet_count.specs.declared.Tally.{Tally}
use Rattle.sheet.specs.Sheet.{added_by, added_of}
use Rattle.sheet.proofs.add.Goals as goal
use Rattle.sheet.proofs.add.Goals.{After-count}

-- by what was counted
module _ (m : After-count) where
  told : {x : Result Tally Refused} → m.count.result ≡ x → added_by m.args.sheet.now x ≡ added_of m.args.allowance m.args.sheet.now m.args.file.now
  unfolding added_of
  told e = ap (added_by m.args.sheet.now) (sym e ∙ m.count.ensures)

pub returns-in_err-tally : goal.returns-in_err-tally
returns-in_err-tally c =
    let p = err_from_is_err_and c.from_residual.result c.from_residual.ensures.1 in
    rw (p.1, p.2) (told (goal.at.returns-in_err-tally c).After-count c.in_err-tally.was)

pub returns : goal.returns
returns c = c.add_tally.ensures ∙ told (goal.at.returns c).After-count c.in_ok-tally.was
