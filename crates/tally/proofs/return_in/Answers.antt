use mathlib.Core.Path.{◌≡◌, ap, sym, ◌∙◌}
use Rattle.point.specs.Read.{read_of}
use Rattle.tally.specs.Tally.{return_in}
use Rattle.tally.specs.Laws.{return_marked, marks_tell}
use Rattle.tally.proofs.return_in.Goals as goal
use Rattle.tally.proofs.return_in.Goals.{After-read_from}

marked : (x : After-read_from) → return_marked x.read_from.result ≡ return_in x.args.format x.args.«record».now
unfolding return_in
marked x = let a = x.args in ap return_marked x.read_from.ensures ∙ marks_tell (read_of a.format a.«record».now)

pub returns-in_default : goal.returns-in_default
returns-in_default c = sym (ap return_marked c.in_default.is) ∙ marked (goal.at.returns-in_default c).After-read_from

pub returns : goal.returns
returns c = c.return_number.ensures ∙ sym (ap return_marked c.in-Ok.is) ∙ marked (goal.at.returns c).After-read_from
