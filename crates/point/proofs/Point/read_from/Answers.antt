use mathlib.Core.Path.{sym, ap, ◌∙◌}
use Rattle.std.proofs.lemmas.Result.{err_from_is_err_and}
use Rattle.format.specs.Laws.{len_is}
use Rattle.point.specs.Read.{sized_of, read_after, read_of}
use Rattle.point.proofs.Point.read_from.Goals as goal

pub read_sized-requires : goal.read_sized-requires
read_sized-requires c = len_is c.args.format _ (sym c.len.ensures ∙ c.in_ok-n.was)

pub returns : goal.returns
unfolding read_of
returns c =
    let a = c.args in
    ◌∙◌ {b = sized_of a.format c.in_ok-n.n a.s.now} c.read_sized.ensures (ap (read_after a.format a.s.now) (sym c.in_ok-n.was ∙ c.len.ensures))

pub returns-in_err-n : goal.returns-in_err-n
unfolding read_of
returns-in_err-n c =
    let a = c.args in
    let p = err_from_is_err_and c.from_residual.result c.from_residual.ensures.1 in
    rw (p.1, p.2) (ap (read_after a.format a.s.now) (sym c.in_err-n.was ∙ c.len.ensures))
