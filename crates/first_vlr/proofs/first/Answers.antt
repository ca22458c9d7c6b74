use mathlib.Core.Path.{sym, ◌∙◌}
use native.Mathlib.Omega.{arith}
use Rattle.first_vlr.specs.Laws.{offset_before, offset_beyond, in_between}
use Rattle.first_vlr.proofs.first.Goals as goal

pub returns-then-to-from : goal.returns-then-to-from
returns-then-to-from c = let a = c.args in sym (offset_before a.o a.user.now a.record_id a.file.now c.if-to-from.true)

pub returns-then-file-to : goal.returns-then-file-to
returns-then-file-to c = let a = c.args in sym (offset_beyond a.o a.user.now a.record_id a.file.now c.if-file-to.true)

pub returns : goal.returns
returns c =
    let a = c.args in
    c.first_in.ensures ∙ sym (in_between a.o a.user.now a.record_id a.file.now (omega arith) (omega arith))
