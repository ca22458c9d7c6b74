use Rattle.std.specs.Prelude.{Result}
use Rattle.header.specs.declared.Whole.{Whole}
use Rattle.refusal.specs.declared.Refusal.{Refusal}
use mathlib.Core.Path.{sym, ap, ◌∙◌}
use native.Mathlib.Omega.{arith}
use Rattle.header.specs.Judged.{padding_by, padding_of}
use Rattle.header.specs.Laws.{within}
use Rattle.header.proofs.padding.Goals as goal

pub slice_bounds-result-count : goal.slice_bounds-result-count
slice_bounds-result-count c =
    let w = within c.args.s.now (sym c.measure.ensures ∙ c.in-Ok.is) in
    omega (arith, w.1)

pub slice_bounds-result-start : goal.slice_bounds-result-start
slice_bounds-result-start c =
    let w = within c.args.s.now (sym c.measure.ensures ∙ c.in-Ok.is) in
    omega (arith, w.1)

pub slice_bounds-result-end : goal.slice_bounds-result-end
slice_bounds-result-end c =
    let w = within c.args.s.now (sym c.measure.ensures ∙ c.in-Ok.is) in
    omega (arith, w.2)

pub returns-in-Ok : goal.returns-in-Ok
unfolding padding_by padding_of
returns-in-Ok c = ap (λ (a : Result Whole Refusal). padding_by a c.args.s.now) (sym c.in-Ok.is ∙ c.measure.ensures)

pub returns-in-Err : goal.returns-in-Err
unfolding padding_by padding_of
returns-in-Err c = ap (λ (a : Result Whole Refusal). padding_by a c.args.s.now) (sym c.in-Err.is ∙ c.measure.ensures)
