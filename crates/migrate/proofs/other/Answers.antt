use Rattle.std.specs.Prelude.{Ok}
use mathlib.Core.Path.{◌≡◌, ap, sym, subst, ◌∙◌}
use mathlib.Core.Bool.{Bool}
use Rattle.header_convert.specs.Told.{new-turned, old-turned}
use Rattle.migrate.specs.Migrate.{goes_of, other_of}
use Rattle.migrate.proofs.other.Goals as goal

pub returns-then-up : goal.returns-then-up
returns-then-up c =
    let a = c.args in
    c.to_new.ensures ∙ new-turned a.header (subst (λ (b : Bool). goes_of b a.header ≡ (Ok tt)) c.if-up.true c.requires) ∙ ap (λ (b : Bool). other_of b a.header) (sym c.if-up.true)

pub returns-else-up : goal.returns-else-up
returns-else-up c =
    let a = c.args in
    c.to_old.ensures ∙ old-turned a.header (subst (λ (b : Bool). goes_of b a.header ≡ (Ok tt)) c.if-up.false c.requires) ∙ ap (λ (b : Bool). other_of b a.header) (sym c.if-up.false)
