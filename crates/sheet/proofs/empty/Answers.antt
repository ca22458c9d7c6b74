use mathlib.Core.Path.{refl}
use Rattle.sheet.specs.Sheet.{empty_sheet}
use Rattle.sheet.proofs.empty.Goals as goal

pub returns : goal.returns
unfolding empty_sheet
returns c = refl
