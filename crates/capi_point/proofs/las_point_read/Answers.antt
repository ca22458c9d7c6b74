use Prim.Native.Nat.{ℕ}
use mathlib.Core.List.{List}
use mathlib.Core.Path.{sym, ap, ◌∙◌}
use Rattle.format.specs.declared.Format.{Format}
use Rattle.point.specs.Read.{read_of}
use Rattle.capi_point.specs.Numbers.{read_row}
use Rattle.capi_point.proofs.las_point_read.Goals as goal

pub returns-in-Ok : goal.returns-in-Ok
returns-in-Ok c =
    let a = c.args in
    (λ i. (c.tell.ensures i, c.numbers_of.ensures i))
    ∙ ap (read_row a.numbers.now) (sym c.in-Ok.is ∙ c.read_from.ensures ∙ ap (λ (f : Format). read_of f a.s.now) c.format_of.ensures)

pub returns-in-Err : goal.returns-in-Err
returns-in-Err c =
    let a = c.args in
    ap (λ (r : List ℕ). (r, a.numbers.now)) c.refuse.ensures
    ∙ ap (read_row a.numbers.now) (sym c.in-Err.is ∙ c.read_from.ensures ∙ ap (λ (f : Format). read_of f a.s.now) c.format_of.ensures)
