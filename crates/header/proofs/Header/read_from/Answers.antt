use Rattle.std.specs.Prelude.{Result, Ok}
use Rattle.header.specs.declared.Whole.{Whole}
use Rattle.refusal.specs.declared.Refusal.{Refusal}
use mathlib.Core.Path.{sym, ap, ◌∙◌}
use native.Mathlib.Omega.{arith}
use lib.Seq.{length-take-le}
use Rattle.std.proofs.lemmas.Result.{err_from_is_err_and}
use Rattle.header.specs.Judged.{read_by, read_of}
use Rattle.header.specs.Laws.{within}
use Rattle.header.specs.Answers.{read_refused}
use Rattle.header.proofs.Header.read_from.Goals as goal

pub slice_bounds-read_block-end : goal.slice_bounds-read_block-end
slice_bounds-read_block-end c =
    let s = c.args.s.now in
    let w = within s (sym c.measure.ensures ∙ c.in_ok-whole.was) in
    sym (length-take-le _ s (omega (arith, w.1, w.2)))

pub read_block-requires : goal.read_block-requires
read_block-requires c =
    let s = c.args.s.now in
    let w = within s (sym c.measure.ensures ∙ c.in_ok-whole.was) in
    rw (length-take-le c.in_ok-whole.whole.block s (omega (arith, w.1, w.2))) w.0

pub returns-in_err-whole : goal.returns-in_err-whole
returns-in_err-whole c =
    let p = err_from_is_err_and c.from_residual.result c.from_residual.ensures.1 in
    rw (p.1, p.2) (sym (read_refused c.args.s.now (sym c.measure.ensures ∙ c.in_err-whole.was)))

pub returns : goal.returns
unfolding read_by read_of
returns c =
    ap Ok c.read_block.ensures
    ∙ ap (λ (a : Result Whole Refusal). read_by a c.args.s.now) (sym c.in_ok-whole.was ∙ c.measure.ensures)
