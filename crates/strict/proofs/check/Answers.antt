use Rattle.strict.specs.Fit.{fit_of}
use Rattle.strict.proofs.check.Goals as goal

pub returns : goal.returns
unfolding fit_of
returns c = c.check_fields.ensures
