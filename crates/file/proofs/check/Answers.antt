use mathlib.Core.Path.{sym, ◌∙◌}
use Rattle.std.proofs.lemmas.Result.{err_from_is_err_and}
use Rattle.file.specs.Opened.{checked_refused}
use Rattle.file.proofs.check.Goals as goal

pub returns-in_err-read_from : goal.returns-in_err-read_from
returns-in_err-read_from c =
    let a = c.args in
    let p = err_from_is_err_and c.from_residual.result c.from_residual.ensures.1 in
    rw (p.1, p.2) (sym (checked_refused a.allowance a.file.now (sym c.read_from.ensures ∙ c.in_err-read_from.was)))

pub judge-requires : goal.judge-requires
judge-requires c = sym c.read_from.ensures ∙ c.in_ok-read_from.was
