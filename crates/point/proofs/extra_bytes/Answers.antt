use mathlib.Core.Path.{sym, ap, ◌∙◌}
use Rattle.format.specs.Laws.{len_is}
use Rattle.point.specs.Read.{extra_after, extra_of}
use Rattle.point.proofs.extra_bytes.Goals as goal

pub extra_sized-requires : goal.extra_sized-requires
extra_sized-requires c =
    len_is c.args.format _ (sym c.len.ensures ∙ c.in-Ok.is)

pub returns-in-Ok : goal.returns-in-Ok
unfolding extra_of
returns-in-Ok c =
    let a = c.args in
    c.extra_sized.ensures ∙ ap (extra_after a.format a.s.now) (sym c.in-Ok.is ∙ c.len.ensures)

pub returns-in-Err : goal.returns-in-Err
unfolding extra_of
returns-in-Err c =
    let a = c.args in
    ap (extra_after a.format a.s.now) (sym c.in-Err.is ∙ c.len.ensures)
