use mathlib.Core.Path.{sym, ap}
use Rattle.walker.specs.Walk.{refusal_by, refusal_of}
use Rattle.walker.proofs.refusal_at.Goals as goal

pub returns-in-Ok : goal.returns-in-Ok
unfolding refusal_of
returns-in-Ok c = ap (refusal_by c.args.place) (sym c.in-Ok.is)

pub returns-in-Err : goal.returns-in-Err
unfolding refusal_of
returns-in-Err c = ap (refusal_by c.args.place) (sym c.in-Err.is)
