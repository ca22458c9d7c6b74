use mathlib.Core.Path.{sym, ap, ◌∙◌}
use Prim.Native.Nat.{ℕ}
use mathlib.Core.List.{[], ◌∷◌}
use Rattle.capi.specs.Rows.{new_row}
use Rattle.capi.proofs.las_format_new.Goals as goal

-- The answer that the match found is the one that the call gave.
pub returns-in-Ok : goal.returns-in-Ok
returns-in-Ok c = c.tell.ensures ∙ ap (λ (n : ℕ). 0 ∷ n ∷ 0 ∷ []) c.format_word.ensures ∙ ap new_row (sym c.in-Ok.is ∙ c.new.ensures)

pub returns-in-Err : goal.returns-in-Err
returns-in-Err c = c.refuse.ensures ∙ ap new_row (sym c.in-Err.is ∙ c.new.ensures)
