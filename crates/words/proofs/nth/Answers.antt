use mathlib.Core.Path.{sym}
use lib.ListN.{get_or-eq_default}
use Rattle.words.proofs.nth.Goals as goal

pub returns-else-k-n : goal.returns-else-k-n
returns-else-k-n c = sym (get_or-eq_default c.args.n.now 0 c.if-k-n.false)
