use mathlib.Core.Path.{sym}
use Rattle.le.specs.Laws.{num-one, num_past}
use Rattle.le.proofs.u8_at.Goals as goal

pub returns-then-at-s : goal.returns-then-at-s
returns-then-at-s c = sym (num-one c.args.s.now c.args.at)

pub returns-else-at-s : goal.returns-else-at-s
returns-else-at-s c = sym (num_past 1 c.args.s.now c.args.at c.if-at-s.false)
