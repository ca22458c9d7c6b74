use mathlib.Core.Path.{sym, ap, ◌∙◌}
use Rattle.capi_descriptor.specs.Rows.{Lent, read_row}
use Rattle.capi_descriptor.proofs.las_descriptor_read.Goals as goal

pub returns-in-Ok : goal.returns-in-Ok
returns-in-Ok c =
    let a = c.args in
    let lent : Lent = (a.numbers.now, a.name.now, a.deprecated.now, a.description.now) in
    let v = c.in-Ok.descriptor in
    ◌∙◌ {a = (c.tell.new.row, (c.numbers_of.result, v.name, c.deprecated_of.result, v.description))} (λ i. (c.tell.ensures i, (c.numbers_of.ensures i, v.name, c.deprecated_of.ensures i, v.description)))
    (ap (read_row lent) (sym c.in-Ok.is ∙ c.read_from.ensures))

pub returns-in-Err : goal.returns-in-Err
returns-in-Err c =
    let a = c.args in
    let lent : Lent = (a.numbers.now, a.name.now, a.deprecated.now, a.description.now) in
    ◌∙◌ {a = (c.refuse.new.row, lent)} (λ i. (c.refuse.ensures i, lent))
    (ap (read_row lent) (sym c.in-Err.is ∙ c.read_from.ensures))
