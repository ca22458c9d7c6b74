use Prim.Native.Nat.{ℕ, ◌+◌, ◌-◌, ◌*◌, ◌≤◌, ◌<◌}
use mathlib.Core.Path.{◌≡◌, ap, ◌∙◌}
use mathlib.Core.Bool.{cond}
use mathlib.Core.List.{List, [], ◌∷◌, ◌++◌}
use native.Mathlib.Nat.{zero-add}
use native.Mathlib.Omega.{arith}
use lib.Dec.{eqb}
use lib.ListN.{length, take, length-append}
use Rattle.std.proofs.lemmas.List.{length_push, length-take-le}
use Rattle.std.specs.declared.slice.ChunksExact.{ChunksExact}
use Rattle.std.specs.Slice.Iter.{chunks_exact_rest, chunks_exact_size}
use Rattle.lent.specs.Laws.{less_one}
use Rattle.format.specs.Laws.{some_bytes}
use Rattle.format.specs.Length.{len_is}
use Rattle.tally.specs.Tally.{count_of, by_return}
use Rattle.tally.specs.Laws.{count-first}
use Rattle.tally.proofs.Turn as turns
use Rattle.tally.proofs.Turn.{Sum, some_left, no_more, none_left}
use Rattle.tally.proofs.count_all.Goals as goal
use Rattle.tally.proofs.count_all.Goals.{After-return_in-r}

-- the chunks are cut from the records
sized : {x y : ChunksExact ℕ} {m : ℕ} → x ≡ y → chunks_exact_size y ≡ m → chunks_exact_size x ≡ m
sized e is = ap chunks_exact_size e ∙ is

-- a turn takes one record from the rest
module _ (x : After-return_in-r) where
  abbrev now : List ℕ
  now = x.in-Some.«record».now

  abbrev next : List ℕ
  next = chunks_exact_rest x.next.new.self

  abbrev left : ℕ
  left = x.args.n - length x.loop-record.yielded

  cut : chunks_exact_rest x.loop-record.«record-iterator» ≡ now ++ next
  cut = x.in-Some.ensures.steps.1.0

  size : length now ≡ x.args.m
  size = x.in-Some.ensures.steps.1.1 ∙ x.loop-record.invariant.0

  lengths : left * x.args.m ≡ x.args.m + length next
  lengths = omega (arith, ap length cut, length-append now next, size, x.loop-record.invariant.2)

  more : 0 < left
  more = some_left left x.args.m (length next) lengths (some_bytes x.args.format x.args.m x.requires.0)

  fewer : x.args.n - length (x.loop-record.yielded ++ x.in-Some.«record» ∷ []) ≡ left - 1
  fewer = omega (arith, length_push x.loop-record.yielded x.in-Some.«record»)

  rest_is : length next ≡ (left - 1) * x.args.m
  rest_is = omega (arith, lengths, less_one left x.args.m more)

  -- of a sum so far
  module _ (r sum one : ℕ) (e : one ≡ cond (eqb x.return_in-r.result r) 1 0) (so_far : Sum x.args.format x.args.n x.args.records.now r sum left (chunks_exact_rest x.loop-record.«record-iterator»)) where
    counted : Sum x.args.format x.args.n x.args.records.now r (sum + one) (left - 1) next
    counted =
        turns.turn x.args.format x.args.n x.args.records.now now next (size ∙ len_is x.args.format x.args.m x.requires.0) r left sum x.return_in-r.result one more x.return_in-r.ensures e (rw cut at so_far)

    small : sum + one ≤ x.args.n
    small =
        turns.small x.args.format x.args.n x.args.records.now now next (size ∙ len_is x.args.format x.args.m x.requires.0) r left sum x.return_in-r.result one more x.return_in-r.ensures e (rw cut at so_far)

pub overflow_add-first : goal.overflow_add-first
overflow_add-first c =
    omega (arith, small (goal.at.overflow_add-first c).After-return_in-r 1 c.loop-record.first c.one_if-first.result c.one_if-first.ensures c.loop-record.invariant.3)

pub overflow_add-second : goal.overflow_add-second
overflow_add-second c =
    omega (arith, small (goal.at.overflow_add-second c).After-return_in-r 2 c.loop-record.second c.one_if-second.result c.one_if-second.ensures c.loop-record.invariant.4)

pub overflow_add-third : goal.overflow_add-third
overflow_add-third c =
    omega (arith, small (goal.at.overflow_add-third c).After-return_in-r 3 c.loop-record.third c.one_if-third.result c.one_if-third.ensures c.loop-record.invariant.5)

pub overflow_add-fourth : goal.overflow_add-fourth
overflow_add-fourth c =
    omega (arith, small (goal.at.overflow_add-fourth c).After-return_in-r 4 c.loop-record.fourth c.one_if-fourth.result c.one_if-fourth.ensures c.loop-record.invariant.6)

pub overflow_add-fifth : goal.overflow_add-fifth
overflow_add-fifth c =
    omega (arith, small (goal.at.overflow_add-fifth c).After-return_in-r 5 c.loop-record.fifth c.one_if-fifth.result c.one_if-fifth.ensures c.loop-record.invariant.7)

pub loop-record-preserved : goal.loop-record-preserved
loop-record-preserved c =
    let x = (goal.at.loop-record-preserved c).After-return_in-r in
    rw (fewer x) (
      c.in-Some.ensures.steps.0 ∙ c.loop-record.invariant.0,
      omega (arith, more x, length_push c.loop-record.yielded c.in-Some.«record»),
      rest_is x,
      counted x 1 _ _ c.one_if-first.ensures c.loop-record.invariant.3,
      counted x 2 _ _ c.one_if-second.ensures c.loop-record.invariant.4,
      counted x 3 _ _ c.one_if-third.ensures c.loop-record.invariant.5,
      counted x 4 _ _ c.one_if-fourth.ensures c.loop-record.invariant.6,
      counted x 5 _ _ c.one_if-fifth.ensures c.loop-record.invariant.7,
    )

pub chunks_exact-record-items-requires : goal.chunks_exact-record-items-requires
chunks_exact-record-items-requires c = some_bytes c.args.format c.args.m c.requires.0

pub loop-record-init-derived : goal.loop-record-init-derived
loop-record-init-derived c = (omega (arith, some_bytes c.args.format c.args.m c.requires.0, sized c.into_iter-record-iterator.ensures.into_iter_gives c.chunks_exact-record-items.ensures.size), tt)

pub loop-record-init : goal.loop-record-init
loop-record-init c =
    let a = c.args in
    let s = a.records.now in
    let it = c.into_iter-record-iterator.result in
    let size : chunks_exact_size it ≡ a.m = sized c.into_iter-record-iterator.ensures.into_iter_gives c.chunks_exact-record-items.ensures.size in
    let rest : chunks_exact_rest it ≡ take (a.n * a.m) s = ap chunks_exact_rest c.into_iter-record-iterator.ensures.into_iter_gives ∙ c.chunks_exact-record-items.ensures.rest in
    let none : a.n - 0 ≡ a.n = omega arith in
    let same : (r : ℕ) → 0 + count_of a.format r a.n (take (a.n * a.m) s) ≡ count_of a.format r a.n s = λ r. rw (len_is a.format a.m c.requires.0) (zero-add _ ∙ count-first a.format r a.n s) in
    rw (rest, none) (size, omega arith, length-take-le (a.n * a.m) s c.requires.1, same 1, same 2, same 3, same 4, same 5)

pub returns : goal.returns
unfolding by_return
returns c =
    let l = c.loop-record in
    let a = c.args in
    let rest = chunks_exact_rest l.«record-iterator» in
    let none : a.n - length l.yielded ≡ 0 = no_more _ a.m (omega (arith, c.in-None.ensures.steps.1.0, l.invariant.0, l.invariant.2)) in
    λ i. record {
      first = none_left a.format a.n a.records.now 1 l.first rest (rw none at l.invariant.3) i;
      second = none_left a.format a.n a.records.now 2 l.second rest (rw none at l.invariant.4) i;
      third = none_left a.format a.n a.records.now 3 l.third rest (rw none at l.invariant.5) i;
      fourth = none_left a.format a.n a.records.now 4 l.fourth rest (rw none at l.invariant.6) i;
      fifth = none_left a.format a.n a.records.now 5 l.fifth rest (rw none at l.invariant.7) i;
    }
