use Rattle.std.specs.Prelude.{ℕ, Result}
use Rattle.refusal.specs.declared.Refusal.{Refusal}
use mathlib.Core.Path.{ap, sym, ◌∙◌}
use Rattle.header_write.specs.Wrote.{wrote_by, wrote_of}
use Rattle.header_write.proofs.write_to.Goals as goal

pub write_sized-requires : goal.write_sized-requires
write_sized-requires c = sym c.in-Ok.is ∙ c.header_size.ensures

pub returns-in-Ok : goal.returns-in-Ok
unfolding wrote_of
returns-in-Ok c =
    let a = c.args in
    c.write_sized.ensures ∙ ap (λ (x : Result ℕ Refusal). wrote_by x a.header a.padding.now a.dst.now) (sym c.in-Ok.is ∙ c.header_size.ensures)

pub returns-in-Err : goal.returns-in-Err
unfolding wrote_by wrote_of
returns-in-Err c =
    let a = c.args in
    ap (λ (x : Result ℕ Refusal). wrote_by x a.header a.padding.now a.dst.now) (sym c.in-Err.is ∙ c.header_size.ensures)
