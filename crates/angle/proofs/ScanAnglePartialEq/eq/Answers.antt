use mathlib.Core.Path.{◌∙◌}
use borrow.Author.Rules.{rules}
use mir.Syntax.{w8, w16}
use mir.Val.{SFits}
use Rattle.angle.specs.Angle.{same_angle}
use Rattle.le.proofs.Twos.{kept}
use Rattle.angle.proofs.Bits.{same_bits}
use Rattle.angle.proofs.ScanAnglePartialEq.eq.Goals as goal

-- Each arm answers what the definition says of its two variants.
pub returns-in-Rank-Rank : goal.returns-in-Rank-Rank
unfolding same_angle
returns-in-Rank-Rank c =
    let a = c.in-Rank-Rank in
    let r : SFits w8 a.r = search rules in
    let q : SFits w8 a.q = search rules in
    rw (a.is-0, a.is-1) (same_bits w8 a.r a.q r.sfits q.sfits)

pub returns-in-Rank-Scaled : goal.returns-in-Rank-Scaled
unfolding same_angle
returns-in-Rank-Scaled c =
    let a = c.in-Rank-Scaled in
    let r : SFits w8 a.r = search rules in
    let n : SFits w16 a.n = search rules in
    rw (a.is-0, a.is-1) (c.same.ensures ∙ rw (kept w8 a.r r.sfits, kept w16 a.n n.sfits))

pub returns-in-Scaled-Rank : goal.returns-in-Scaled-Rank
unfolding same_angle
returns-in-Scaled-Rank c =
    let a = c.in-Scaled-Rank in
    let r : SFits w8 a.r = search rules in
    let n : SFits w16 a.n = search rules in
    rw (a.is-0, a.is-1) (c.same-in-Scaled-Rank.ensures ∙ rw (kept w8 a.r r.sfits, kept w16 a.n n.sfits))

pub returns-in-Scaled-Scaled : goal.returns-in-Scaled-Scaled
unfolding same_angle
returns-in-Scaled-Scaled c =
    let a = c.in-Scaled-Scaled in
    let n : SFits w16 a.n = search rules in
    let m : SFits w16 a.m = search rules in
    rw (a.is-0, a.is-1) (same_bits w16 a.n a.m n.sfits m.sfits)
