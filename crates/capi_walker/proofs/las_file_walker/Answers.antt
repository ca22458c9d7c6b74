use Rattle.std.proofs.Common.{ap, ◌∙◌}
use Rattle.capi_walker.specs.Rows.{place_numbers}
use Rattle.capi_walker.proofs.las_file_walker.Goals as goal

pub returns : goal.returns
returns c = c.place_numbers.ensures ∙ ap place_numbers c.begin.ensures
