use mathlib.Core.Path.{sym, ap, ◌∙◌}
use mir.Syntax.{w8, w16}
use Rattle.le.proofs.Twos.{kept}
use Rattle.angle.specs.Table.{entry_of, to_scaled_in}
use Rattle.angle.proofs.ScanAngle.to_scaled_in.Goals as goal

pub returns-in-Rank : goal.returns-in-Rank
returns-in-Rank c =
    let a = c.args in
    kept w16 _ c.entry.type_inv ∙ c.entry.ensures ∙ ap (entry_of a.table.now) (kept w8 _ c.in-Rank.known_told-1-own.given.0.1)
    ∙ sym (ap (to_scaled_in a.table.now) c.in-Rank.is)

pub returns-in-Scaled : goal.returns-in-Scaled
returns-in-Scaled c =
    kept w16 _ c.in-Scaled.known_told-in-Scaled-1-own.given.0.1 ∙ sym (ap (to_scaled_in c.args.table.now) c.in-Scaled.is)
