use Rattle.std.specs.Prelude.{Ok}
use mathlib.Core.Path.{◌≡◌, ap, sym, ◌∙◌}
use native.Mathlib.Omega.{arith}
use Rattle.std.proofs.lemmas.Result.{err_from_is_err_and}
use Rattle.outline.specs.declared.Outline.{Outline}
use Rattle.outline.specs.Outline.{outline_of}
use Rattle.file.specs.Opened.{opened-accepted, opened-refused}
use Rattle.cursor.specs.Parts.{outline_in}
use Rattle.cursor.specs.Cursor.{plan_of, first_of, started_of}
use Rattle.cursor.specs.Accepted.{laid}
use Rattle.cursor.proofs.start.Goals as goal
use Rattle.cursor.proofs.start.Goals.{After-of}

-- the outline that was made is the file's
outline : (c : After-of) → c.of.result ≡ outline_in c.args.file.now
outline c = c.of.ensures ∙ ap outline_of (opened-accepted c.args.allowance c.args.file.now (sym c.open.ensures ∙ c.in_ok-header.was)).1

-- the points of an accepted file end in it
pub first-requires : goal.first-requires
first-requires c =
    let l = laid c.args.allowance c.args.file.now (opened-accepted c.args.allowance c.args.file.now (sym c.open.ensures ∙ c.in_ok-header.was)).0 in
    rw (outline (goal.at.first-requires c).After-of) (omega (arith, l.after-points, l.within, c.well_formed.0.0))

pub returns-in_err-header : goal.returns-in_err-header
unfolding started_of
returns-in_err-header c =
    let p = err_from_is_err_and c.from_residual.result c.from_residual.ensures.1 in
    rw (p.1, p.2, opened-refused c.args.allowance c.args.file.now (sym c.open.ensures ∙ c.in_err-header.was))

pub returns : goal.returns
unfolding started_of
returns c =
    rw (opened-accepted c.args.allowance c.args.file.now (sym c.open.ensures ∙ c.in_ok-header.was)).0
    (ap Ok (c.first.ensures ∙ ap (λ (o : Outline). first_of (plan_of o)) (outline (goal.at.returns c).After-of)))
