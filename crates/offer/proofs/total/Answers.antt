use Rattle.offer.specs.Steps.{total_of}
use Rattle.offer.proofs.total.Goals as goal

pub returns : goal.returns
unfolding total_of
returns c = λ i. record {
  first = c.sum.ensures i;
  second = c.sum-2.ensures i;
  third = c.sum-3.ensures i;
  fourth = c.sum-4.ensures i;
  fifth = c.sum-5.ensures i;
}
