use Rattle.std.specs.Prelude.{Result}
use Rattle.refusal.specs.declared.Refused.{Refused}
use mathlib.Core.Path.{◌≡◌, ap, sym, ◌∙◌}
use Rattle.sheet.specs.declared.Sheet.{Sheet}
use Rattle.sheet.specs.Sheet.{Added, added_of}
use Rattle.capi_sheet.specs.Numbers.{sheet_from, added_by, added_row}
use Rattle.capi_sheet.proofs.las_sheet_add.Goals as goal
use Rattle.capi_sheet.proofs.las_sheet_add.Goals.{After-add}

-- the row and the numbers of the answer, whichever it is
module _ (m : After-add) where
  told : {x : Result Unit Refused} → m.add.result ≡ x → added_by x m.add.new.sheet m.args.sheet.now ≡ added_row (added_of m.args.allowance (sheet_from m.args.sheet.now) m.args.file.now) m.args.sheet.now
  unfolding added_row
  told is =
      ap (λ (x : Result Unit Refused). added_by x m.add.new.sheet m.args.sheet.now) (sym is)
      ∙ ap (λ (r : Added). added_row r m.args.sheet.now) (m.add.ensures ∙ ap (λ (h : Sheet). added_of m.args.allowance h m.args.file.now) m.sheet_from-after.ensures)

pub returns-in-Ok : goal.returns-in-Ok
returns-in-Ok c =
    (λ i. (c.tell.ensures i, c.sheet_numbers.ensures i)) ∙ told (goal.at.returns-in-Ok c).After-add c.in-Ok.is

pub returns-in-Err : goal.returns-in-Err
returns-in-Err c =
    (λ i. (c.refuse.ensures i, c.args.sheet.now)) ∙ told (goal.at.returns-in-Err c).After-add c.in-Err.is
