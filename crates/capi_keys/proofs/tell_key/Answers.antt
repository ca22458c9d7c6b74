use mathlib.Core.Path.{ap, sym, ◌∙◌}
use mathlib.Core.Bool.{true}
use Rattle.capi_keys.specs.Rows.{key_row}
use Rattle.capi_keys.proofs.tell_key.Goals as goal

pub returns-in-Some : goal.returns-in-Some
returns-in-Some c =
    (λ i. (true, c.key_numbers.ensures i)) ∙ ap (key_row c.args.numbers.now) (sym c.in-Some.is)

pub returns-in-None : goal.returns-in-None
returns-in-None c = ap (key_row c.args.numbers.now) (sym c.in-None.is)
