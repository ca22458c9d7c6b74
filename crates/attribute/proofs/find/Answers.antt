use mathlib.Core.Path.{ap, sym, ◌∙◌}
use Rattle.std.proofs.lemmas.Result.{err_from_is_err_and}
use Rattle.attribute.specs.Find.{found_by, found_of}
use Rattle.attribute.specs.Ready.{began, ready}
use Rattle.attribute.proofs.find.Goals as goal

pub returns-in_err-c : goal.returns-in_err-c
unfolding found_of
returns-in_err-c c =
    let a = c.args in
    let p = err_from_is_err_and c.from_residual.result c.from_residual.ensures.1 in
    rw (p.1, p.2) (ap (found_by a.name.now a.file.now) (sym c.in_err-c.was ∙ c.begin.ensures))

-- the place before the first is one of an accepted file
pub search-requires : goal.search-requires
search-requires c =
    let a = c.args in
    ready a.allowance a.file.now (λ k. (c.shared_slice_known-1.given k).fits) (began a.allowance a.file.now (sym c.begin.ensures ∙ c.in_ok-c.was))

pub returns : goal.returns
unfolding found_of
returns c =
    let a = c.args in
    c.search.ensures ∙ ap (found_by a.name.now a.file.now) (sym c.in_ok-c.was ∙ c.begin.ensures)
