use Rattle.std.specs.Prelude.{Result}
use Rattle.refusal.specs.declared.Refusal.{Refusal}
use Prim.Native.Nat.{ℕ, ◌-◌}
use mathlib.Core.Path.{◌≡◌, ap, sym, ◌∙◌}
use mathlib.Core.Bool.{Bool}
use mathlib.Core.List.{List, []}
use native.Mathlib.Omega.{arith}
use Rattle.fields.specs.Table.{part}
use Rattle.vlr.specs.Layout.{head_size}
use Rattle.vlr.specs.Vlr.{data_length, length_of, extent_of, when_whole, data_of}
use Rattle.vlr.specs.Laws.{Whole, accepted}
use Rattle.vlr.proofs.data.Goals as goal
use Rattle.vlr.proofs.data.Goals.{After-head_size-start}

-- The record ends in `s`, and past its head lie just the bytes that it states.
-- the answer tells whether there is data
module _ (extended : Bool) (s : List ℕ) {x : Result ℕ Refusal} (p : x ≡ extent_of extended s) where
  known : {y : Result ℕ Refusal} → x ≡ y → when_whole y (part (data_length (length_of extended s)) (head_size extended) s) [] ≡ data_of extended s
  unfolding data_of
  known q = ap (λ (z : Result ℕ Refusal). when_whole z (part (data_length (length_of extended s)) (head_size extended) s) []) (sym q ∙ p)

pub returns-in_default : goal.returns-in_default
returns-in_default c = known c.args.extended c.args.s.now c.measure.ensures c.in_default.is

is_whole : (c : After-head_size-start) → Whole c.args.extended c.args.s.now c.in-Ok.«end»
is_whole c = accepted c.args.extended c.args.s.now (sym c.measure.ensures ∙ c.in-Ok.is)

pub returns : goal.returns
returns c =
    let a = c.args in
    let w = is_whole (goal.at.returns c).After-head_size-start in
    let n : c.in-Ok.«end» - c.head_size-start.result ≡ data_length (length_of a.extended a.s.now) = omega arith in
    (λ i. part (n i) (c.head_size-start.ensures i) a.s.now) ∙ known a.extended a.s.now c.measure.ensures c.in-Ok.is

pub slice_bounds-result-count : goal.slice_bounds-result-count
slice_bounds-result-count c = omega (arith, is_whole c)

pub slice_bounds-result-start : goal.slice_bounds-result-start
slice_bounds-result-start c = omega (arith, is_whole c)

pub slice_bounds-result-end-2 : goal.slice_bounds-result-end-2
slice_bounds-result-end-2 c = omega (arith, is_whole c)
