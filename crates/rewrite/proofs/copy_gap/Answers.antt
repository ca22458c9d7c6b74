use mathlib.Core.Path.{ap, ◌∙◌}
use mathlib.Core.List.{List}
use Prim.Native.Nat.{ℕ}
use Rattle.std.specs.Prelude.{Result}
use Rattle.refusal.specs.declared.Refusal.{Refusal}
use Rattle.lent.specs.Laws.{front}
use Rattle.rewrite.proofs.copy_gap.Goals as goal

pub returns : goal.returns
returns c =
    ap (λ (p : Result ℕ Refusal × List ℕ). p.1) (c.put.ensures ∙ front c.args.src.now c.args.dst.now c.requires)
