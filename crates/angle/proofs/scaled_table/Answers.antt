use mathlib.Core.Path.{refl}
use Rattle.angle.specs.Angle.{scaled_of}
use Rattle.angle.specs.Table.{scaled_table}
use Rattle.angle.proofs.scaled_table.Goals as goal

-- One computed test of all 256 entries: each is what the rule gives.
pub returns : goal.returns
unfolding scaled_of scaled_table
returns c = refl
