use Rattle.std.specs.Prelude.{Ok}
use mathlib.Core.Path.{sym, ap, ◌∙◌}
use Rattle.std.proofs.lemmas.Result.{err_from_is_err_and}
use Rattle.descriptor.specs.Laws.{accepted, read_whole, read_refused}
use Rattle.descriptor.proofs.Descriptor.read_from.Goals as goal

pub returns-in_err-judge : goal.returns-in_err-judge
returns-in_err-judge c =
    let p = err_from_is_err_and c.from_residual.result c.from_residual.ensures.1 in
    rw (p.1, p.2) (sym (read_refused c.args.s.now (sym c.judge.ensures ∙ c.in_err-judge.was)))

pub contents-requires : goal.contents-requires
contents-requires c = (accepted c.args.s.now (sym c.judge.ensures ∙ c.in_ok-judge.was)).0

pub returns : goal.returns
returns c = ap Ok c.contents.ensures ∙ sym (read_whole c.args.s.now (sym c.judge.ensures ∙ c.in_ok-judge.was))
