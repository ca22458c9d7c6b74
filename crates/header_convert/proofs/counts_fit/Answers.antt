use Prim.Native.Nat.{ℕ}
use mathlib.Core.Path.{◌≡◌, ap, ◌∙◌}
use mathlib.Core.Bool.{◌&&◌, and_assoc}
use mathlib.Core.List.{List}
use lib.ListN.{drop}
use Rattle.std.specs.List.{list_all}
use Rattle.header.specs.declared.Header.{Header}
use Rattle.header.specs.Header.{points_of}
use Rattle.header_convert.specs.Turned.{large_of, old_by_return, fits32, is_zero, counts_fit}
use Rattle.header_convert.proofs.counts_fit.Goals as goal
use Rattle.header_convert.proofs.counts_fit.Goals.{After-no_more}

module _ (c : After-no_more) where
  abbrev h : Header
  h = c.args.header

  five : c.five_fit.result ≡ list_all fits32 (old_by_return h)
  five = c.five_fit.ensures ∙ ap (list_all fits32) c.old_by_return.ensures

  more : c.no_more.result ≡ list_all is_zero (drop 5 (large_of h))
  more = c.no_more.ensures ∙ ap (λ (l : List ℕ). list_all is_zero (drop 5 l)) c.large_of.ensures

  tested : (fits32 c.number_of_point_records.result && c.five_fit.result) && c.no_more.result ≡ counts_fit h
  unfolding counts_fit
  tested =
      (λ i. (fits32 (c.number_of_point_records.ensures i) && five i) && more i)
      ∙ and_assoc (fits32 (points_of h)) (list_all fits32 (old_by_return h)) (list_all is_zero (drop 5 (large_of h)))

pub returns : goal.returns
returns c = tested (goal.at.returns c).After-no_more
