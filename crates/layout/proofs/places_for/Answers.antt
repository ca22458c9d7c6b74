use Rattle.format.specs.Laws.{further, after_source}
use Rattle.layout.specs.Layout.{places_of}
use Rattle.layout.proofs.places_for.Goals as goal

pub returns : goal.returns
unfolding places_of
returns c =
    rw (after_source c.args.format.is_extended, further 18 c.args.format.is_extended, ← c.when-point_source_id.ensures.0, ← c.when.ensures.0, ← c.when-2.ensures.0, ← c.when-3.ensures.0, ← c.when-4.ensures.0)
