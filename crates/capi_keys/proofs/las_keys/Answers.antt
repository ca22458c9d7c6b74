use mathlib.Core.Path.{ap, sym, ◌∙◌}
use Rattle.capi_keys.specs.Rows.{opened_row}
use Rattle.capi_keys.proofs.las_keys.Goals as goal

pub returns-in-Ok : goal.returns-in-Ok
returns-in-Ok c =
    (λ i. (c.tell.ensures i, c.keys_numbers.ensures i)) ∙ ap (opened_row c.args.numbers.now) (sym c.in-Ok.is ∙ c.«open».ensures)

pub returns-in-Err : goal.returns-in-Err
returns-in-Err c =
    let n = c.args.numbers.now in
    (λ i. (c.refuse.ensures i, n)) ∙ ap (opened_row n) (sym c.in-Err.is ∙ c.«open».ensures)
