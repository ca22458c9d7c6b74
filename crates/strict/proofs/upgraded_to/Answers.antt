use mathlib.Core.Path.{sym, ap, ◌∙◌}
use borrow.Author.Rules.{rules}
use mir.Syntax.{w16}
use Rattle.le.proofs.Twos.{kept}
use Rattle.strict.specs.Upgrade.{upgraded_to_by, upgraded_to}
use Rattle.strict.proofs.upgraded_to.Goals as goal

pub returns-in-TwoByte : goal.returns-in-TwoByte
unfolding upgraded_to
returns-in-TwoByte c =
    let a = c.args in
    rw (kept w16 a.scaled c.ranges.scaled.sfits) at c.upgraded_old.ensures
    ∙ sym (ap (upgraded_to_by a.point a.scaled) c.in-TwoByte.is)

pub returns-in-ThreeByte : goal.returns-in-ThreeByte
unfolding upgraded_to
returns-in-ThreeByte c = search rules
