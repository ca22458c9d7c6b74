use mathlib.Core.Path.{sym, ap, ◌∙◌}
use Rattle.header.specs.Judged.{judged}
use Rattle.capi_header.specs.Numbers.{Lent, read_row, end_of}
use Rattle.capi_header.proofs.las_header_read.Goals as goal

pub returns-in-Ok : goal.returns-in-Ok
returns-in-Ok c =
    let a = c.args in
    let lent : Lent = (a.numbers.now, a.guid.now, a.system.now, a.software.now) in
    let h = c.in-Ok.header in
    let end = c.end_of.ensures ∙ ap end_of c.measure.ensures in
    ◌∙◌ {a = (c.tell.new.row, (c.numbers_of.result, h.guid, h.system_identifier, h.generating_software))} (λ i. (c.tell.ensures i, (c.numbers_of.ensures i, h.guid, h.system_identifier, h.generating_software)))
    ((λ i. read_row lent (end i) (sym c.in-Ok.is i)) ∙ ap (read_row lent (end_of (judged a.s.now))) c.read_from.ensures)

pub returns-in-Err : goal.returns-in-Err
returns-in-Err c =
    let a = c.args in
    let lent : Lent = (a.numbers.now, a.guid.now, a.system.now, a.software.now) in
    ◌∙◌ {a = (c.refuse.new.row, lent)} (λ i. (c.refuse.ensures i, lent))
    (ap (read_row lent (end_of (judged a.s.now))) (sym c.in-Err.is ∙ c.read_from.ensures))
