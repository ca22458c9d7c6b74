use mathlib.Core.Path.{sym, ap, ◌∙◌}
use Rattle.header.specs.Judged.{header_in}
use Rattle.outline.specs.Outline.{outline_of}
use Rattle.file.specs.Opened.{opened-accepted, opened-refused}
use Rattle.walker.specs.Begin.{first_place, begin_by, begin_of}
use Rattle.walker.proofs.begin.Goals as goal

pub returns-in-Ok : goal.returns-in-Ok
unfolding begin_of
returns-in-Ok c =
    let s = c.args.file.now in
    let o = opened-accepted c.args.allowance s (sym c.open.ensures ∙ c.in-Ok.is) in
    c.first_place.ensures ∙ ap first_place (c.of.ensures ∙ ap outline_of o.1)
    ∙ ap (begin_by (outline_of (header_in s))) (sym o.0)

pub returns-in-Err : goal.returns-in-Err
unfolding begin_of
returns-in-Err c =
    let s = c.args.file.now in
    c.refused_place.ensures ∙ ap (begin_by (outline_of (header_in s))) (sym (opened-refused c.args.allowance s (sym c.open.ensures ∙ c.in-Err.is)))
