use mathlib.Core.Path.{ap, sym, ◌∙◌}
use mathlib.Core.Bool.{Bool}
use mir.Syntax.{w16}
use Rattle.le.proofs.Twos.{kept}
use Rattle.strict.specs.Upgrade.{upgraded_to, to_its_own}
use Rattle.convert.specs.Run.{turned_of}
use Rattle.convert.proofs.turned.Goals as goal

pub returns-then-up : goal.returns-then-up
returns-then-up c =
    let p = c.args.point in
    c.upgraded_to.ensures ∙ ap (upgraded_to p) (kept w16 _ c.to_scaled_in.type_inv ∙ c.to_scaled_in.ensures ∙ c.requires) ∙ to_its_own p
    ∙ sym (ap (λ (up : Bool). turned_of up p) c.if-up.true)

pub returns : goal.returns
returns c = sym (ap (λ (up : Bool). turned_of up c.args.point) c.if-up.false)
