use Prim.Native.Nat.{◌*◌}
use mathlib.Core.Path.{◌∙◌}
use Rattle.refusal.specs.Laws.{wanted-checked}
use Rattle.refusal.proofs.wanted.Goals as goal

pub returns : goal.returns
returns c =
    c.unwrap_or.ensures ∙ wanted-checked c.checked_mul.result (c.args.count * c.args.each) c.checked_mul.ensures
