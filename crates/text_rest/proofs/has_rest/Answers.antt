use mathlib.Core.Path.{ap, ◌∙◌}
use Rattle.text_rest.specs.Rest.{rest_of}
use Rattle.text_rest.proofs.has_rest.Goals as goal

pub returns : goal.returns
returns c = c.rest_in.ensures ∙ ap rest_of c.text_at.ensures
