use Rattle.std.proofs.Common.{ap, ◌∙◌}
use Rattle.capi_walker.specs.Rows.{place_with, with-start}
use Rattle.capi_walker.proofs.place_numbers.Goals as goal

pub returns : goal.returns
returns c = c.numbers_with.ensures ∙ ap (place_with c.args.place) c.start_row.ensures ∙ with-start c.args.place
