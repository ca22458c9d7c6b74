use Prim.Native.Nat.{ℕ}
use mathlib.Core.Path.{sym, ap, ◌∙◌}
use mathlib.Core.List.{[], ◌∷◌}
use Rattle.capi_vlr.specs.Rows.{stated_row}
use Rattle.capi_vlr.proofs.las_vlr_stated.Goals as goal

pub returns-in-Ok : goal.returns-in-Ok
returns-in-Ok c =
    c.tell.ensures ∙ ap (λ (k : ℕ). 0 ∷ k ∷ 0 ∷ []) c.to_u64.ensures
    ∙ ap stated_row (sym c.in-Ok.is ∙ c.stated.ensures)

pub returns-in-Err : goal.returns-in-Err
returns-in-Err c =
    c.refuse.ensures ∙ ap stated_row (sym c.in-Err.is ∙ c.stated.ensures)
