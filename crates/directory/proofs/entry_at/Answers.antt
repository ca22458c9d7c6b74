use Rattle.directory.specs.Directory.{entry_of}
use Rattle.directory.proofs.entry_at.Goals as goal

pub returns : goal.returns
unfolding entry_of
returns c =
    λ i. record {
      key = c.u16_at.ensures i;
      location = c.u16_at-2.ensures i;
      count = c.u16_at-3.ensures i;
      index = c.u16_at-4.ensures i;
    }
