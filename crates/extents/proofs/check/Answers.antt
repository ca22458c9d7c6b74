use Rattle.std.specs.Prelude.{Ok}
use mathlib.Core.Path.{sym, ◌∙◌}
use lib.ListN.{length}
use Rattle.std.proofs.lemmas.Result.{err_from_is_err_and}
use Rattle.rules.specs.Rules.{header_rules}
use Rattle.extents.specs.Extents.{part_rules, outline_rules, records_of}
use Rattle.rules.specs.First.{accepted-all}
use Rattle.extents.proofs.Then.{then_refused, then_accepted, bounded}
use Rattle.extents.proofs.check.Goals as goal

pub returns-in_err-check_header : goal.returns-in_err-check_header
unfolding outline_rules
returns-in_err-check_header c =
    let a = c.args in
    let p = err_from_is_err_and c.from_residual.result c.from_residual.ensures.1 in
    let told = c.in_err-check_header.was in
    rw (p.1, p.2) (sym told ∙ then_refused (header_rules a.block a.minor a.o (length a.file.now)) (part_rules a.allowance a.o a.file.now) (Ok (records_of a.o)) 0 c.check_header.ensures told)

pub check_parts-requires : goal.check_parts-requires
check_parts-requires c =
    let a = c.args in
    bounded a.block a.minor a.o a.file.now
    (accepted-all (header_rules a.block a.minor a.o (length a.file.now)) (sym c.check_header.ensures ∙ c.in_ok-check_header.was)).0

pub returns : goal.returns
unfolding outline_rules
returns c =
    let a = c.args in
    then_accepted (header_rules a.block a.minor a.o (length a.file.now)) (part_rules a.allowance a.o a.file.now) (Ok (records_of a.o)) 0 c.check_header.ensures c.in_ok-check_header.was c.check_parts.ensures
