use Rattle.std.specs.Prelude.{Result}
use Rattle.cursor.specs.declared.Cursor.{Cursor}
use Rattle.refusal.specs.declared.Refused.{Refused}
use Prim.Native.Nat.{ℕ, ◌*◌, ◌≤◌, ◌<◌}
use mathlib.Core.Path.{◌≡◌, sym, ap, ◌∙◌}
use mathlib.Core.List.{List, [], ◌∷◌}
use native.Mathlib.Omega.{arith}
use borrow.Author.Tests.{lt-ltb, le-ltb}
use lib.ListN.{length}
use Rattle.words.specs.Rows.{refused_row}
use Rattle.cursor.specs.Cursor.{left_of}
use Rattle.cursor.specs.Started.{by_start, starts}
use Rattle.capi_file.specs.Parts.{table_row, parts_row}
use Rattle.capi_file.proofs.las_file_parts.Goals as goal
use Rattle.capi_file.proofs.las_file_parts.Goals.{After-start, Else-table-wanted}

-- what is answered by how the cursor started
abbrev start_row : List ℕ → List ℕ → Result Cursor Refused → List ℕ × List ℕ
start_row s d = by_start (λ ps. table_row ps d) (λ r k. (refused_row r k, d)) s

started : (c : After-start) (x : Result Cursor Refused) → let a = c.args in c.start.result ≡ x → start_row a.file.now a.table.now x ≡ parts_row a.allowance a.file.now a.table.now
unfolding parts_row
started c x is =
    let a = c.args in
    ap (start_row a.file.now a.table.now) (sym is ∙ c.start.ensures)
    ∙ starts (λ ps. table_row ps a.table.now) (λ r k. (refused_row r k, a.table.now)) a.allowance a.file.now

pub returns-then-table-wanted : goal.returns-then-table-wanted
unfolding table_row
returns-then-table-wanted c =
    let a = c.args in
    let left = left_of a.file.now c.in-Ok.c in
    let short : length a.table.now < 3 * length left = omega (arith, c.count-wanted.ensures, c.if-table-wanted.true) in
    rw (← started (goal.at.returns-then-table-wanted c).After-start _ c.in-Ok.is, lt-ltb _ _ short, ← c.count-wanted.ensures) (λ i. (c.refuse.ensures i, a.table.now))

-- there is room for all
room : (c : Else-table-wanted) → let a = c.args in 3 * length (left_of a.file.now c.in-Ok.c) ≤ length a.table.now
room c = omega (arith, c.count-wanted.ensures, c.if-table-wanted.false)

pub returns-else-table-wanted : goal.returns-else-table-wanted
unfolding table_row
returns-else-table-wanted c =
    rw (← started (goal.at.returns-else-table-wanted c).After-start _ c.in-Ok.is, le-ltb _ _ (room (goal.at.returns-else-table-wanted c).Else-table-wanted))
    (λ i. ((c.tell.ensures ∙ ap (λ (n : ℕ). 0 ∷ n ∷ 0 ∷ []) c.count-wanted.ensures) i, c.fill.ensures i))

pub returns-in-Err : goal.returns-in-Err
returns-in-Err c =
    let a = c.args in
    (λ i. (c.refuse-in-Err.ensures i, a.table.now)) ∙ started (goal.at.returns-in-Err c).After-start _ c.in-Err.is

pub fill-requires : goal.fill-requires
fill-requires c = room (goal.at.fill-requires c).Else-table-wanted
