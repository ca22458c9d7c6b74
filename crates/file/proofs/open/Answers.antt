use Rattle.std.specs.Prelude.{Ok}
use mathlib.Core.Path.{sym, ap, ◌∙◌}
use Rattle.std.proofs.lemmas.Result.{err_from_is_err_and}
use Rattle.header.specs.Answers.{header_is}
use Rattle.file.specs.Opened.{checked_refused, open_accepted, open_refused}
use Rattle.file.proofs.open.Goals as goal

pub returns-in_err-header : goal.returns-in_err-header
returns-in_err-header c =
    let a = c.args in
    let p = err_from_is_err_and c.from_residual.result c.from_residual.ensures.1 in
    rw (p.1, p.2) (sym (open_refused a.allowance a.file.now (checked_refused a.allowance a.file.now (sym c.read_from.ensures ∙ c.in_err-header.was))))

pub judge-requires : goal.judge-requires
judge-requires c = sym c.read_from.ensures ∙ c.in_ok-header.was

pub returns-in_err-judge : goal.returns-in_err-judge
returns-in_err-judge c =
    let a = c.args in
    let p = err_from_is_err_and c.from_residual-in_err-judge.result c.from_residual-in_err-judge.ensures.1 in
    rw (p.1, p.2) (sym (open_refused a.allowance a.file.now (sym c.judge.ensures ∙ c.in_err-judge.was)))

pub returns : goal.returns
returns c =
    let a = c.args in
    let read = sym c.read_from.ensures ∙ c.in_ok-header.was in
    ap Ok (header_is a.file.now read) ∙ sym (open_accepted a.allowance a.file.now (sym c.judge.ensures ∙ c.in_ok-judge.was))
