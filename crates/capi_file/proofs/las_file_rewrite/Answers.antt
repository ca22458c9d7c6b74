use Rattle.std.specs.Prelude.{ℕ, Result}
use Rattle.refusal.specs.declared.Refused.{Refused}
use mathlib.Core.Path.{sym, ap, ◌∙◌}
use Rattle.capi_file.specs.Rows.{rewrote_by, rewrote_row}
use Rattle.capi_file.proofs.las_file_rewrite.Goals as goal

pub returns-in-Ok : goal.returns-in-Ok
returns-in-Ok c =
    let r = c.rewrite in
    (λ i. (c.tell.ensures i, r.new.dst))
    ∙ ap (λ (x : Result ℕ Refused). (rewrote_by x, r.new.dst)) (sym c.in-Ok.is)
    ∙ ap rewrote_row r.ensures

pub returns-in-Err : goal.returns-in-Err
returns-in-Err c =
    let r = c.rewrite in
    (λ i. (c.refuse.ensures i, r.new.dst))
    ∙ ap (λ (x : Result ℕ Refused). (rewrote_by x, r.new.dst)) (sym c.in-Err.is)
    ∙ ap rewrote_row r.ensures
