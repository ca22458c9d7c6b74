use mathlib.Core.Path.{sym, ap, ◌∙◌}
use mir.Syntax.{w8, w16}
use Rattle.angle.specs.Angle.{nearest_rank, held, rank_of, to_rank}
use Rattle.le.proofs.Twos.{kept}
use Rattle.angle.proofs.ScanAngle.to_rank.Goals as goal

-- What the two functions called ensure, one after the other.
pub returns-in-Scaled : goal.returns-in-Scaled
unfolding rank_of
returns-in-Scaled c =
    kept w8 _ c.held8.type_inv ∙ c.held8.ensures
    ∙ ap held (kept w16 _ c.nearest_rank.type_inv ∙ c.nearest_rank.ensures ∙ ap nearest_rank (kept w16 _ c.in-Scaled.known_told-in-Scaled-1-own.given.0.1))
    ∙ sym (ap to_rank c.in-Scaled.is)

pub returns-in-Rank : goal.returns-in-Rank
returns-in-Rank c = kept w8 _ c.in-Rank.known_told-1-own.given.0.1 ∙ sym (ap to_rank c.in-Rank.is)
