use mathlib.Core.List.{[], ◌∷◌}
use Rattle.header.specs.Kinds.{nums}
use Rattle.header.proofs.large_by_return.Goals as goal

pub returns : goal.returns
unfolding nums
returns c =
    λ i. c.u64_at.ensures i ∷ c.u64_at-2.ensures i ∷ c.u64_at-3.ensures i ∷ c.u64_at-4.ensures i ∷ c.u64_at-5.ensures i ∷ c.u64_at-6.ensures i ∷ c.u64_at-7.ensures i ∷ c.u64_at-8.ensures i ∷ c.u64_at-9.ensures i ∷ c.u64_at-10.ensures i ∷ c.u64_at-11.ensures i ∷ c.u64_at-12.ensures i ∷ c.u64_at-13.ensures i ∷ c.u64_at-14.ensures i ∷ c.u64_at-15.ensures i ∷ []
