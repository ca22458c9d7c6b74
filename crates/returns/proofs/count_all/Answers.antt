use Prim.Native.Nat.{ℕ, ◌+◌, ◌-◌, ◌*◌, ◌≤◌, ◌<◌}
use mathlib.Core.Path.{◌≡◌, refl, ap, ◌∙◌}
use mathlib.Core.Bool.{Bool, cond}
use mathlib.Core.List.{List}
use native.Mathlib.Nat.{zero-add}
use native.Mathlib.Omega.{arith}
use lib.ListN.{take, get_or, get_or-replicate}
use Rattle.std.proofs.lemmas.List.{length_push, length-take-le}
use Rattle.std.specs.Slice.Iter.{chunks_exact_rest, chunks_exact_size}
use Rattle.returns.specs.Returns.{counted_of}
use Rattle.returns.specs.Laws.{odd-first, have-first}
use Rattle.returns.proofs.Turn.{as_number, small, number_fits, odd_fits, turn, all-numbers, all_odd}
use Rattle.returns.proofs.count_all.Goals as goal
use Rattle.returns.proofs.count_all.Goals.{After-mark_in-mark}

pub loop-record-init : goal.loop-record-init
loop-record-init c =
    let a = c.args in
    let s = a.records.now in
    let it = c.into_iter-record-iterator.result in
    let rest : chunks_exact_rest it ≡ take (a.n * a.m) s = ap chunks_exact_rest c.into_iter-record-iterator.ensures.into_iter_gives ∙ c.chunks_exact-record-items.ensures.rest in
    let none : a.n - 0 ≡ a.n = omega arith in
    rw (rest, none) (record {
      by = ap chunks_exact_size c.into_iter-record-iterator.ensures.into_iter_gives ∙ c.chunks_exact-record-items.ensures.size;
      ahead = length-take-le (a.n * a.m) s c.requires.1;
      sized = refl;
      each = λ r h. rw (get_or-replicate {A = ℕ} 16 r 0 0 h) (zero-add _ ∙ have-first a.extended a.m r a.n s);
      odds = zero-add _ ∙ odd-first a.extended a.m a.n s;
    })

pub loop-record-init-derived : goal.loop-record-init-derived
loop-record-init-derived c = (rw (c.into_iter-record-iterator.ensures.into_iter_gives, c.chunks_exact-record-items.ensures.size) c.requires.0, tt)

-- the record that is taken from the rest
module _ (x : After-mark_in-mark) where
  abbrev now : List ℕ
  now = x.in-Some.«record».now

  abbrev next : List ℕ
  next = chunks_exact_rest x.next.new.self

  low : x.mark_in-mark.result.number < 16
  low =
      small now next x.loop-record.invariant x.requires.0 x.in-Some.ensures.steps.1.0 x.in-Some.ensures.steps.1.1 x.mark_in-mark.result x.mark_in-mark.ensures

  fits : get_or x.loop-record.numbers x.mark_in-mark.result.number 0 + 1 ≤ x.args.n
  fits =
      number_fits now next x.loop-record.invariant x.requires.0 x.in-Some.ensures.steps.1.0 x.in-Some.ensures.steps.1.1 x.mark_in-mark.result x.mark_in-mark.ensures

pub overflow_add-odd : goal.overflow_add-odd
overflow_add-odd c =
    omega (arith, odd_fits c.in-Some.«record».now (chunks_exact_rest c.next.new.self) c.loop-record.invariant c.requires.0 c.in-Some.ensures.steps.1.0 c.in-Some.ensures.steps.1.1 c.mark_in-mark.result c.mark_in-mark.ensures (as_number _ ∙ ap (λ (b : Bool). cond b 1 0) c.is_odd.ensures))

pub loop-record-preserved : goal.loop-record-preserved
loop-record-preserved c =
    turn c.in-Some.«record».now (chunks_exact_rest c.next.new.self) c.loop-record.invariant c.requires.0 c.in-Some.ensures.steps.1.0 c.in-Some.ensures.steps.1.1 c.mark_in-mark.result c.mark_in-mark.ensures (as_number _ ∙ ap (λ (b : Bool). cond b 1 0) c.is_odd.ensures) c.in-Some.ensures.steps.0
    (omega (arith, length_push c.loop-record.yielded c.in-Some.«record»))

pub returns : goal.returns
unfolding counted_of
returns c =
    let short = c.in-None.ensures.steps.1.0 in
    λ i. record { numbers = all-numbers c.loop-record.invariant short i; odd = all_odd c.loop-record.invariant short i }

pub overflow_cast-i : goal.overflow_cast-i
overflow_cast-i c = omega (arith, low (goal.at.overflow_cast-i c).After-mark_in-mark)

pub offset_bounds-numbers-i : goal.offset_bounds-numbers-i
offset_bounds-numbers-i c = omega (arith, low (goal.at.offset_bounds-numbers-i c).After-mark_in-mark)

pub bounds-numbers-i : goal.bounds-numbers-i
bounds-numbers-i c = low (goal.at.bounds-numbers-i c).After-mark_in-mark

pub overflow_add-numbers : goal.overflow_add-numbers
overflow_add-numbers c = omega (arith, fits (goal.at.overflow_add-numbers c).After-mark_in-mark)

pub bounds-numbers-i-in-loop-record : goal.bounds-numbers-i-in-loop-record
bounds-numbers-i-in-loop-record c = low (goal.at.bounds-numbers-i-in-loop-record c).After-mark_in-mark
