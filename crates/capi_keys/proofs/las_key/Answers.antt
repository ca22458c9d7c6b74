use mathlib.Core.Path.{ap, sym, ◌∙◌}
use Rattle.capi_keys.specs.Rows.{got_row}
use Rattle.capi_keys.proofs.las_key.Goals as goal

pub returns-in-Ok : goal.returns-in-Ok
returns-in-Ok c =
    let a = c.args in
    (λ i. (c.tell.ensures i, c.key_numbers.ensures i)) ∙ ap (got_row a.wanted a.key.now) (sym c.in-Ok.is ∙ c.get.ensures)

pub returns-in-Err : goal.returns-in-Err
returns-in-Err c =
    let a = c.args in
    (λ i. (c.refuse.ensures i, a.key.now)) ∙ ap (got_row a.wanted a.key.now) (sym c.in-Err.is ∙ c.get.ensures)
