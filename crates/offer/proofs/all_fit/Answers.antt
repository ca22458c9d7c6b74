use mathlib.Core.Bool.{and_assoc}
use Rattle.offer.specs.Offer.{counts_fit}
use Rattle.offer.proofs.all_fit.Goals as goal

pub returns : goal.returns
unfolding counts_fit
returns c = simp and_assoc
