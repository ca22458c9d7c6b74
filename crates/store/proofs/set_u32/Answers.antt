use mathlib.Core.Path.{ap, ◌∙◌}
use lib.Seq.{sets}
use Rattle.store.proofs.set_u32.Goals as goal

pub returns : goal.returns
returns c = c.set_bytes.ensures ∙ ap (sets _ _) c.to_le_bytes.ensures
