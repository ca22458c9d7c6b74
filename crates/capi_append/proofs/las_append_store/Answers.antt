use Rattle.std.specs.Prelude.{Option, Result, Ok}
use Rattle.sectors.specs.declared.Sector.{Sector}
use Rattle.refusal.specs.declared.Refusal.{Refusal}
use mathlib.Core.Path.{◌≡◌, ap, sym, ◌∙◌}
use mathlib.Core.List.{List, [], ◌∷◌}
use Prim.Native.Nat.{ℕ}
use Rattle.offer.specs.declared.Sweep.{Sweep}
use Rattle.sectors.specs.Sectors.{stored_of}
use Rattle.capi_append.specs.Rows.{sweep_from, stored_row}
use Rattle.capi_append.proofs.las_append_store.Goals as goal
use Rattle.capi_append.proofs.las_append_store.Goals.{After-store}

-- the row of the answer, whichever it is
told : (c : After-store) (x : Result (Option Sector) Refusal) → let a = c.args in c.store.result ≡ x → stored_row (x, c.store.new.file) a.sector.now ≡ stored_row (stored_of (sweep_from a.sweep.now) a.records.now a.bounds.now a.k a.file.now) a.sector.now
told c x is =
    let a = c.args in
    ap (λ (y : Result (Option Sector) Refusal). stored_row (y, c.store.new.file) a.sector.now) (sym is)
    ∙ ap (λ (r : Result (Option Sector) Refusal × List ℕ). stored_row r a.sector.now) (c.store.ensures ∙ ap (λ (w : Sweep). stored_of w a.records.now a.bounds.now a.k a.file.now) c.sweep_of.ensures)

pub returns-in-Ok-Some : goal.returns-in-Ok-Some
returns-in-Ok-Some c =
    (λ i. (c.tell.ensures i, (c.in-Ok-Some.told.at ∷ c.in-Ok-Some.told.len ∷ [], c.store.new.file))) ∙ told (goal.at.returns-in-Ok-Some c).After-store _ (c.in-Ok-Some.is ∙ ap Ok c.in-Ok-Some.field-0-is)

pub returns-in-Ok-None : goal.returns-in-Ok-None
returns-in-Ok-None c =
    (λ i. (c.tell-in-Ok-None.ensures i, (0 ∷ 0 ∷ [], c.store.new.file))) ∙ told (goal.at.returns-in-Ok-None c).After-store _ (c.in-Ok-None.is ∙ ap Ok c.in-Ok-None.field-0-is)

pub returns-in-Err : goal.returns-in-Err
returns-in-Err c =
    let a = c.args in
    (λ i. (c.refuse.ensures i, (a.sector.now, c.store.new.file))) ∙ told (goal.at.returns-in-Err c).After-store _ c.in-Err.is
