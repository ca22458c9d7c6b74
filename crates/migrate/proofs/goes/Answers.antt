use mathlib.Core.Path.{ap, sym, ◌∙◌}
use mathlib.Core.Bool.{Bool}
use Rattle.migrate.specs.Migrate.{goes_of}
use Rattle.migrate.proofs.goes.Goals as goal

pub returns-then-up : goal.returns-then-up
returns-then-up c = let a = c.args in c.ask_new.ensures ∙ ap (λ (b : Bool). goes_of b a.header) (sym c.if-up.true)

pub returns-else-up : goal.returns-else-up
returns-else-up c = let a = c.args in c.ask_old.ensures ∙ ap (λ (b : Bool). goes_of b a.header) (sym c.if-up.false)
