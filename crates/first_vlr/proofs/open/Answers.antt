use Rattle.std.specs.Prelude.{Ok}
use mathlib.Core.Path.{sym, ap, ◌∙◌}
use Rattle.std.proofs.lemmas.Result.{err_from_is_err_and}
use Rattle.outline.specs.Outline.{outline_of}
use Rattle.file.specs.Opened.{opened-accepted, opened-refused}
use Rattle.cursor.specs.Parts.{outline_in}
use Rattle.first_vlr.specs.First.{opened_by, opened_of}
use Rattle.first_vlr.proofs.open.Goals as goal

pub returns-in_err-header : goal.returns-in_err-header
unfolding opened_of
returns-in_err-header c =
    let p = err_from_is_err_and c.from_residual.result c.from_residual.ensures.1 in
    rw (p.1, p.2) (ap (opened_by (outline_in c.args.file.now)) (sym (opened-refused c.args.allowance c.args.file.now (sym c.open.ensures ∙ c.in_err-header.was))))

pub returns : goal.returns
unfolding opened_of
returns c =
    let o = opened-accepted c.args.allowance c.args.file.now (sym c.open.ensures ∙ c.in_ok-header.was) in
    ap Ok (c.of.ensures ∙ ap outline_of o.1) ∙ ap (opened_by (outline_in c.args.file.now)) (sym o.0)
