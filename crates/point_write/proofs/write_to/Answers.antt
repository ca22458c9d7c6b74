use mathlib.Core.Path.{sym, ap, ◌∙◌}
use Rattle.format.specs.Length.{len_is}
use Rattle.point_write.specs.Write.{written_after, written_of}
use Rattle.point_write.proofs.write_to.Goals as goal

-- By what the format's length answers.
pub write_sized-requires : goal.write_sized-requires
write_sized-requires c =
    len_is c.args.format _ (sym c.len.ensures ∙ c.in-Ok.is)

pub returns-in-Ok : goal.returns-in-Ok
unfolding written_of
returns-in-Ok c =
    let a = c.args in
    c.write_sized.ensures ∙ ap (written_after a.format a.point a.extra.now a.dst.now) (sym c.in-Ok.is ∙ c.len.ensures)

pub returns-in-Err : goal.returns-in-Err
unfolding written_of
returns-in-Err c =
    let a = c.args in
    ap (written_after a.format a.point a.extra.now a.dst.now) (sym c.in-Err.is ∙ c.len.ensures)
