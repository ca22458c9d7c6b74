use Rattle.std.proofs.lemmas.Result.{err_from_is_err_and}
use mathlib.Core.Path.{ap, sym, subst, refl, ◌∙◌}
use borrow.Author.Rules.{rules}
use Rattle.header.specs.declared.Header.{Header}
use Rattle.header.specs.Judged.{header_in}
use Rattle.file.specs.Theorems.{accepted-holds}
use Rattle.file.specs.Opened.{opened-accepted, opened-refused}
use Rattle.migrate.specs.Migrate.{header_verdict, done_by}
use Rattle.migrate.specs.Steps.{Ready}
use Rattle.migrate.specs.Told.{by_accepted, by_check_lem, done}
use Rattle.migrate.proofs.write.Goals as goal

-- the header of an accepted file
pub write_accepted-requires : goal.write_accepted-requires
write_accepted-requires c =
    let a = c.args in
    let o = opened-accepted a.allowance a.file.now (sym c.open.ensures ∙ c.in_ok-header.was) in
    let ready : Ready (header_in a.file.now) a.file.now = record {
      allowance = a.allowance;
      holds = accepted-holds a.allowance a.file.now o.0;
      bytes = search rules;
      read = refl;
    } in
    subst (λ (h : Header). Ready h a.file.now) (sym o.1) ready

pub returns : goal.returns
returns c =
    let a = c.args in
    let o = opened-accepted a.allowance a.file.now (sym c.open.ensures ∙ c.in_ok-header.was) in
    c.write_accepted.ensures
    ∙ ap (λ (h : Header). done_by a.up h a.file.now a.dst.now (header_verdict a.up h a.file.now)) o.1
    ∙ sym (done a.up a.allowance a.file.now a.dst.now (by_accepted a.up a.allowance a.file.now o.0))

pub returns-in_err-header : goal.returns-in_err-header
returns-in_err-header c =
    let a = c.args in
    let p = err_from_is_err_and c.from_residual.result c.from_residual.ensures.1 in
    rw (p.1, p.2) (sym (done a.up a.allowance a.file.now a.dst.now (by_check_lem a.up a.allowance a.file.now (opened-refused a.allowance a.file.now (sym c.open.ensures ∙ c.in_err-header.was)))))
