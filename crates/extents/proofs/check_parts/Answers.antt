use Rattle.std.specs.Prelude.{Ok}
use mathlib.Core.Path.{sym, ◌∙◌}
use Rattle.std.proofs.lemmas.Result.{err_from_is_err_and}
use Rattle.extents.specs.Extents.{part_rules, vlr_rules, records_of}
use Rattle.extents.proofs.Then.{then_refused, then_accepted}
use Rattle.extents.proofs.check_parts.Goals as goal

pub returns-in_err-check_records : goal.returns-in_err-check_records
unfolding part_rules vlr_rules
returns-in_err-check_records c =
    let a = c.args in
    let p = err_from_is_err_and c.from_residual.result c.from_residual.ensures.1 in
    let told = c.in_err-check_records.was in
    rw (p.1, p.2) (sym told ∙ then_refused (vlr_rules a.allowance a.o a.file.now) _ (Ok (records_of a.o)) _ c.check_records.ensures told)

pub returns : goal.returns
unfolding part_rules vlr_rules
returns c =
    let a = c.args in
    then_accepted (vlr_rules a.allowance a.o a.file.now) _ (Ok (records_of a.o)) _ c.check_records.ensures c.in_ok-check_records.was c.check_points.ensures
