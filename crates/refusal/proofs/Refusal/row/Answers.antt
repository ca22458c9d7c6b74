use Rattle.refusal.specs.Table.{row_of}
use Rattle.refusal.proofs.Refusal.row.Goals as goal

pub returns : goal.returns
unfolding row_of
returns c = cc
