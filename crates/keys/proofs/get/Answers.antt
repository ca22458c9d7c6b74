use mathlib.Core.Path.{◌≡◌, sym, ap, ◌∙◌}
use Rattle.std.proofs.lemmas.Result.{err_from_is_err_and}
use Rattle.std.specs.Prelude.{Option, Result}
use Rattle.refusal.specs.declared.Refused.{Refused}
use Rattle.keys.specs.declared.KeyValue.{KeyValue}
use Rattle.keys.specs.declared.Keys.{Keys}
use Rattle.keys.specs.Keys.{value_by, got_by, got_of}
use Rattle.keys.proofs.get.Goals as goal
use Rattle.keys.proofs.get.Goals.{After-find}

-- by what is found among the keys of the file
by-found : (x : After-find) {k : Option KeyValue} → x.find.result ≡ k → value_by k ≡ got_of x.args.allowance x.args.wanted x.args.file.now
unfolding got_of
by-found x is =
    ap value_by (sym is ∙ x.find.ensures) ∙ ap (λ (o : Result Keys Refused). got_by o x.args.wanted x.args.file.now) (sym x.in_ok-keys.was ∙ x.«open».ensures)

pub returns-in_err-keys : goal.returns-in_err-keys
unfolding got_of
returns-in_err-keys c =
    let p = err_from_is_err_and c.from_residual.result c.from_residual.ensures.1 in
    rw (p.1, p.2) (ap (λ (o : Result Keys Refused). got_by o c.args.wanted c.args.file.now) (sym c.in_err-keys.was ∙ c.«open».ensures))

pub returns-in_default : goal.returns-in_default
returns-in_default c = rw c.into.ensures (by-found (goal.at.returns-in_default c).After-find c.in_default.is)

pub returns : goal.returns
returns c = by-found (goal.at.returns c).After-find c.in-Some.is
