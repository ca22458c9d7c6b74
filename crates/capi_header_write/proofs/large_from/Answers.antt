use mathlib.Core.List.{[], ◌∷◌}
use Rattle.capi_header_write.specs.Numbers.{large_from}
use Rattle.capi_header_write.proofs.large_from.Goals as goal

pub returns : goal.returns
unfolding large_from
returns c =
    λ i. record {
      number_of_point_records = c.nth.ensures i;
      number_of_points_by_return =
          c.nth-2.ensures i ∷ c.nth-3.ensures i ∷ c.nth-4.ensures i ∷ c.nth-5.ensures i ∷ c.nth-6.ensures i ∷
          c.nth-7.ensures i ∷ c.nth-8.ensures i ∷ c.nth-9.ensures i ∷ c.nth-10.ensures i ∷ c.nth-11.ensures i ∷
          c.nth-12.ensures i ∷ c.nth-13.ensures i ∷ c.nth-14.ensures i ∷ c.nth-15.ensures i ∷ c.nth-16.ensures i ∷ [];
    }
