use Prim.Native.Nat.{ℕ, ◌-◌}
use mathlib.Core.Path.{◌≡◌, ap, ◌∙◌}
use native.Mathlib.Omega.{arith}
use lib.ListN.{length, take, drop, length-drop}
use lib.Seq.{take_all}
use Rattle.format.specs.Fields.{record_bytes}
use Rattle.format.specs.Laws.{record_sum}
use Rattle.layout.specs.Placed.{laid}
use Rattle.returns.specs.declared.Counted.{Counted}
use Rattle.returns.specs.Returns.{counted_of, survey_at}
use Rattle.returns.proofs.survey_at.Goals as goal
use Rattle.returns.proofs.survey_at.Goals.{After-for_format-each}

module _ (x : After-for_format-each) where
  rest : take (length x.args.file.now - x.args.at) (drop x.args.at x.args.file.now) ≡ drop x.args.at x.args.file.now
  rest = take_all (length x.args.file.now - x.args.at) (drop x.args.at x.args.file.now) (simp length-drop (omega arith))

  long : x.for_format-each.result.record_len ≡ record_bytes x.args.format
  long = (laid x.args.format x.for_format-each.ensures).long

pub count_all-returns-requires : goal.count_all-returns-requires
count_all-returns-requires c = rw (rest (goal.at.count_all-returns-requires c).After-for_format-each, length-drop, long (goal.at.count_all-returns-requires c).After-for_format-each) (omega (arith, record_sum c.args.format), omega (arith, c.requires))

pub returns : goal.returns
unfolding survey_at
returns c =
    let g = c.args in
    let each = c.for_format-each.result.record_len in
    ap (λ (k : Counted). record { extended = g.format.is_extended; at = g.at; each = each; count = g.count; returns = k }) (c.count_all-returns.ensures ∙ ap (counted_of g.format.is_extended each g.count) (rest (goal.at.returns c).After-for_format-each))
    ∙ ap (λ (m : ℕ). survey_at g.format.is_extended g.at m g.count g.file.now) (long (goal.at.returns c).After-for_format-each)

pub slice_bounds-count_all-count : goal.slice_bounds-count_all-count
slice_bounds-count_all-count c = omega (arith, c.requires)

pub slice_bounds-count_all-start : goal.slice_bounds-count_all-start
slice_bounds-count_all-start c = omega (arith, c.requires)
