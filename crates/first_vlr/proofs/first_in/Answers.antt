use Rattle.std.specs.Prelude.{Result, Ok}
use Rattle.refusal.specs.declared.Refusal.{Refusal}
use Prim.Native.Nat.{ℕ, ◌+◌, ◌-◌, ◌≤◌}
use mathlib.Core.Path.{◌≡◌, ap, sym, ◌∙◌}
use mathlib.Core.Bool.{Bool, false}
use mathlib.Core.List.{List}
use native.Mathlib.Nat.{add-zero}
use native.Mathlib.Omega.{arith}
use lib.ListN.{length, drop, length-drop}
use Rattle.vlr.specs.Vlr.{extent_of}
use Rattle.vlr.specs.Laws.{accepted}
use Rattle.first_vlr.specs.First.{is_of, first_from}
use Rattle.first_vlr.specs.Laws.{rest_from, cut_off, is_it, not_it}
use Rattle.first_vlr.proofs.first_in.Goals as goal
use Rattle.first_vlr.proofs.first_in.Goals.{After-is_of, After-measure, At-loop, In-Ok}

pub loop-init : goal.loop-init
loop-init c =
    let all : c.args.count - 0 ≡ c.args.count = omega arith in
    (omega arith, omega arith, rw (all, add-zero))

-- what was measured is the VLR at the place
module _ (m : After-measure) where
  abbrev l : At-loop
  l = (goal.at.After-measure m).At-loop

  abbrev rest : List ℕ
  rest = l.args.rest.now

  there : {x : Result ℕ Refusal} → m.measure.result ≡ x → extent_of false (drop l.loop.at rest) ≡ x
  there is = ap (extent_of false) (sym (rest_from rest l.loop.at)) ∙ sym m.measure.ensures ∙ is

pub returns-in_default : goal.returns-in_default
returns-in_default c =
    let m = (goal.at.returns-in_default c).After-measure in
    let p = c.loop in
    let a = c.args in
    sym (cut_off a.user.now a.record_id a.from (rest m) p.at (a.count - p.counter) (omega arith) (there m c.in_default.is)) ∙ p.invariant.2

-- it is whole
module _ (k : In-Ok) where
  abbrev m : After-measure
  m = (goal.at.In-Ok k).After-measure

  abbrev n : ℕ
  n = k.in-Ok.n

  abbrev p : At-loop
  p = l m

  whole : extent_of false (drop p.loop.at (rest m)) ≡ Ok n
  whole = there m k.in-Ok.is

  ends : (54 ≤ n) × (p.loop.at + n ≤ length (rest m))
  ends =
      let w = accepted false (drop p.loop.at (rest m)) whole in
      (omega arith, omega (arith, length-drop p.loop.at (rest m), p.loop.invariant.1))

-- and by whether it has the ids
module _ (i : After-is_of) where
  abbrev k : In-Ok
  k = (goal.at.After-is_of i).In-Ok

  has : {b : Bool} → i.is_of.result ≡ b → (let a = (p k).args in is_of a.user.now a.record_id (drop (p k).loop.at (rest (m k))) ≡ b)
  has is =
      let a = (p k).args in
      ap (is_of a.user.now a.record_id) (sym (rest_from (rest (m k)) (p k).loop.at)) ∙ sym i.is_of.ensures ∙ is

pub is_of-requires : goal.is_of-requires
is_of-requires c = rw (rest_from (rest (m c)) (p c).loop.at) (omega (arith, (ends c).0, (ends c).1, length-drop (p c).loop.at (rest (m c))))

pub returns-then-is_of : goal.returns-then-is_of
returns-then-is_of c =
    let j = k (goal.at.returns-then-is_of c).After-is_of in
    let a = (p j).args in
    let o = (p j).loop in
    sym (is_it a.user.now a.record_id a.from (rest (m j)) o.at (a.count - o.counter) (omega arith) (whole j) (has (goal.at.returns-then-is_of c).After-is_of c.if-is_of.true)) ∙ o.invariant.2

pub loop-preserved : goal.loop-preserved
loop-preserved c =
    let j = k (goal.at.loop-preserved c).After-is_of in
    let a = (p j).args in
    let o = (p j).loop in
    let fewer : a.count - (o.counter + 1) ≡ a.count - o.counter - 1 = omega arith in
    rw fewer (omega arith, (ends j).1, sym (not_it a.user.now a.record_id a.from (rest (m j)) o.at (a.count - o.counter) (omega arith) (whole j) (has (goal.at.loop-preserved c).After-is_of c.if-is_of.false)) ∙ o.invariant.2)

pub returns : goal.returns
unfolding first_from
returns c =
    let l = c.loop in
    let none : c.args.count - l.counter ≡ 0 = omega arith in
    rw none at l.invariant.2

pub overflow_add-result : goal.overflow_add-result
overflow_add-result c = omega (arith, (ends (k (goal.at.overflow_add-result c).After-is_of)).0, (ends (k (goal.at.overflow_add-result c).After-is_of)).1)

pub overflow_add-result-then-is_of : goal.overflow_add-result-then-is_of
overflow_add-result-then-is_of c = omega (arith, (ends (k (goal.at.overflow_add-result-then-is_of c).After-is_of)).0, (ends (k (goal.at.overflow_add-result-then-is_of c).After-is_of)).1)

pub overflow_sub-result : goal.overflow_sub-result
overflow_sub-result c = omega (arith, (ends (k (goal.at.overflow_sub-result c).After-is_of)).0)

pub overflow_add-at : goal.overflow_add-at
overflow_add-at c = omega (arith, (ends (k (goal.at.overflow_add-at c).After-is_of)).1)
