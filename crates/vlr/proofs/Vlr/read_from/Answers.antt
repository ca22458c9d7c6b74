use Rattle.std.specs.Prelude.{Ok}
use mathlib.Core.Path.{sym, ap, ◌∙◌}
use native.Mathlib.Omega.{arith}
use Rattle.std.proofs.lemmas.Result.{err_from_is_err_and}
use Rattle.vlr.specs.Laws.{accepted, read_told, read_refused}
use Rattle.vlr.proofs.Vlr.read_from.Goals as goal

pub returns-in_err-measure : goal.returns-in_err-measure
returns-in_err-measure c =
    let a = c.args in
    let p = err_from_is_err_and c.from_residual.result c.from_residual.ensures.1 in
    rw (p.1, p.2) (sym (read_refused a.extended a.s.now (sym c.measure.ensures ∙ c.in_err-measure.was)))

pub head-requires : goal.head-requires
head-requires c = let a = c.args in omega (arith, accepted a.extended a.s.now (sym c.measure.ensures ∙ c.in_ok-measure.was))

pub returns : goal.returns
returns c =
    let a = c.args in
    ap Ok c.head.ensures ∙ sym (read_told a.extended a.s.now (sym c.measure.ensures ∙ c.in_ok-measure.was))
