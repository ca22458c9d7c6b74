use mathlib.Core.Path.{ap, ◌∙◌}
use Rattle.sectors.specs.Sectors.{stores_of}
use Rattle.capi_append.proofs.las_append_stores.Goals as goal

pub returns : goal.returns
returns c = c.stores.ensures ∙ ap stores_of c.sweep_of.ensures
