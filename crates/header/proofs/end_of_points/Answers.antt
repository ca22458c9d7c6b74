use mathlib.Core.Path.{sym, ◌∙◌}
use Rattle.std.proofs.lemmas.Result.{err_from_is_err_and}
use Rattle.header.proofs.Extent.{refused, bytes, reached}
use Rattle.header.proofs.end_of_points.Goals as goal

pub returns-in_err-bytes : goal.returns-in_err-bytes
returns-in_err-bytes c =
    let a = c.args in
    let p = err_from_is_err_and c.from_residual.result c.from_residual.ensures.1 in
    rw (p.1, p.2) (refused a.offset a.points a.each c.checked_mul.result c.checked_mul.ensures (sym c.ok_or.ensures.value ∙ c.in_err-bytes.was))

pub returns : goal.returns
returns c =
    let a = c.args in
    let n = bytes a.offset a.points a.each c.checked_mul.result c.checked_mul.ensures (sym c.ok_or.ensures.value ∙ c.in_ok-bytes.was) in
    c.ok_or-2.ensures.value ∙ reached a.offset a.points a.each c.in_ok-bytes.bytes c.checked_add.result n c.checked_add.ensures
