use mathlib.Core.Path.{◌∙◌}
use borrow.Author.Rules.{rules}
use mir.Syntax.{w32}
use Rattle.le.proofs.Twos.{kept}
use Rattle.sheet_count.specs.Count.{least_of, most_of, both}
use Rattle.sheet_count.proofs.both_ranges.Goals as goal

pub returns : goal.returns
unfolding both
returns c =
    let a = c.args.a in
    let b = c.args.b in
    let small = kept w32 a.min (search rules) in
    let small2 = kept w32 b.min (search rules) in
    let large = kept w32 a.max (search rules) in
    let large2 = kept w32 b.max (search rules) in
    λ i. record {
      min = (kept w32 _ c.min.type_inv ∙ c.min.ensures.value ∙ (λ j. least_of (small j) (small2 j))) i;
      max = (kept w32 _ c.max.type_inv ∙ c.max.ensures.value ∙ (λ j. most_of (large j) (large2 j))) i;
    }
