use Rattle.sheet_count.specs.Count.{both_extents}
use Rattle.sheet_count.proofs.both_extents.Goals as goal

pub returns : goal.returns
unfolding both_extents
returns c =
    λ i. record { x = c.both_ranges.ensures i; y = c.both_ranges-2.ensures i; z = c.both_ranges-3.ensures i }
