use Rattle.std.specs.Prelude.{ℕ, Result}
use Rattle.refusal.specs.declared.Refusal.{Refusal}
use mathlib.Core.Path.{sym, ap, ◌∙◌}
use Rattle.point.specs.Read.{read_after, read_of}
use Rattle.point.specs.Marks.{marks_read}
use Rattle.point.proofs.marks.Marks.read_from.Goals as goal

pub returns-in-Ok : goal.returns-in-Ok
unfolding read_of
returns-in-Ok c =
    let a = c.args in
    c.read_sized.ensures ∙ ap (λ (l : Result ℕ Refusal). marks_read (read_after a.format a.s.now l)) (sym c.in-Ok.is ∙ c.len.ensures)

pub returns-in-Err : goal.returns-in-Err
unfolding read_of
returns-in-Err c =
    let a = c.args in
    ap (λ (l : Result ℕ Refusal). marks_read (read_after a.format a.s.now l)) (sym c.in-Err.is ∙ c.len.ensures)
