use Rattle.std.specs.Prelude.{ℕ, Result, Ok}
use Rattle.refusal.specs.declared.Refusal.{Refusal}
use mathlib.Core.Path.{◌≡◌, ap, sym, ◌∙◌}
use borrow.Author.Tests.{le-ltb, lt-ltb}
use Rattle.std.proofs.lemmas.Result.{err_from_is_err_and}
use Rattle.refusal.specs.Laws.{div-le, div-lt}
use Rattle.format.specs.Fields.{len_of}
use Rattle.format.specs.Laws.{some_bytes}
use Rattle.tally.specs.Tally.{tally_by, tally_of}
use Rattle.tally.specs.Laws.{tally_told}
use Rattle.tally.proofs.count.Goals as goal

-- The test is by division, which cannot wrap, and says what the exact product would.
pub returns-then-records-each : goal.returns-then-records-each
returns-then-records-each c =
    let a = c.args in
    let long : len_of a.format ≡ Ok c.in_ok-each.each = sym c.len.ensures ∙ c.in_ok-each.was in
    rw (tally_told a.format a.n a.records.now _ long, lt-ltb _ _ (div-lt _ a.n _ (some_bytes a.format _ long) c.if-records-each.true), c.wanted.ensures)

pub returns : goal.returns
returns c =
    let a = c.args in
    let long : len_of a.format ≡ Ok c.in_ok-each.each = sym c.len.ensures ∙ c.in_ok-each.was in
    rw (tally_told a.format a.n a.records.now _ long, le-ltb _ _ (div-le _ a.n _ (some_bytes a.format _ long) c.if-records-each.false), c.count_all.ensures)

pub returns-in_err-each : goal.returns-in_err-each
unfolding tally_of
returns-in_err-each c =
    let a = c.args in
    let p = err_from_is_err_and c.from_residual.result c.from_residual.ensures.1 in
    rw (p.1, p.2) (ap (λ (n : Result ℕ Refusal). tally_by n a.format a.n a.records.now) c.in_err-each.ensures)

-- the format's length is told, and records have bytes
pub nonzero_div-records : goal.nonzero_div-records
nonzero_div-records c = some_bytes c.args.format _ (sym c.len.ensures ∙ c.in_ok-each.was)

-- n records are there
pub count_all-requires : goal.count_all-requires
count_all-requires c =
    let a = c.args in
    let long : len_of a.format ≡ Ok c.in_ok-each.each = sym c.len.ensures ∙ c.in_ok-each.was in
    (long, div-le _ a.n _ (some_bytes a.format _ long) c.if-records-each.false)
