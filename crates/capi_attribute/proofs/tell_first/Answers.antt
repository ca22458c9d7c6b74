use mathlib.Core.Path.{sym, ap, ◌∙◌}
use mathlib.Core.List.{[], ◌∷◌}
use Rattle.capi_attribute.specs.Rows.{first_by}
use Rattle.capi_attribute.proofs.tell_first.Goals as goal

pub returns-in-Some : goal.returns-in-Some
returns-in-Some c =
    (λ i. (c.tell.ensures i, c.in-Some.part.start ∷ c.in-Some.part.length ∷ [])) ∙ ap (first_by c.args.span.now) (sym c.in-Some.is)

pub returns-in-None : goal.returns-in-None
returns-in-None c =
    let a = c.args in
    (λ i. (c.tell-in-None.ensures i, a.span.now)) ∙ ap (first_by a.span.now) (sym c.in-None.is)
