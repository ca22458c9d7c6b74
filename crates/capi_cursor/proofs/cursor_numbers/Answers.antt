use mathlib.Core.List.{[], ◌∷◌}
use Rattle.capi_cursor.specs.Numbers.{cursor_numbers}
use Rattle.capi_cursor.proofs.cursor_numbers.Goals as goal

pub returns : goal.returns
unfolding cursor_numbers
returns c =
    let p = c.args.c in
    λ i.
    c.stage_number.ensures i ∷ p.at ∷ p.left ∷
    p.plan.header_size ∷ p.plan.number_of_vlrs ∷ p.plan.points ∷ p.plan.«end» ∷
    p.plan.start_of_later_records ∷ p.plan.number_of_later_records ∷ c.yes.ensures i ∷ []
