use mathlib.Core.Path.{ap, ◌∙◌}
use lib.ListN.{length}
use Rattle.format.specs.declared.Format.{Format}
use Rattle.layout.specs.Layout.{places_of}
use Rattle.layout.specs.Placed.{placed}
use Rattle.point.specs.Read.{extra_of}
use Rattle.words.specs.Rows.{part_row}
use Rattle.words.specs.Words.{format_of_word}
use Rattle.capi_point.specs.Numbers.{extra_part}
use Rattle.capi_point.proofs.las_point_extra.Goals as goal

pub returns : goal.returns
unfolding extra_part
returns c =
    let f = c.format_of-of_word in
    let a = c.args in
    let at = (placed (format_of_word a.format) (c.places_for-at.ensures ∙ ap places_of f.ensures)).extra in
    let extra = c.extra_bytes-extra.ensures ∙ ap (λ (g : Format). extra_of g a.s.now) f.ensures in
    c.tell_part.ensures ∙ λ i. part_row (at i) (length (extra i))
