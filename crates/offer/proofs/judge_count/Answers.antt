use Rattle.std.specs.Prelude.{Ok}
use Prim.Native.Nat.{ℕ, ◌+◌, ◌*◌, ◌≤◌, ◌<◌}
use mathlib.Core.Path.{◌≡◌, ap, sym, subst, ◌∙◌}
use native.Mathlib.Nat.{add-mul, mul-le-mul_left}
use native.Mathlib.Omega.{arith}
use borrow.Author.Tests.{eq-eqb, ne_eqb}
use lib.ListN.{length}
use Rattle.format.specs.Fields.{len_of}
use Rattle.format.specs.Length.{len_is, len-le}
use Rattle.format.specs.Laws.{some_bytes}
use Rattle.outline.specs.declared.Outline.{Outline}
use Rattle.outline.specs.Outline.{outline_of}
use Rattle.extents.specs.Extents.{points_end}
use Rattle.file.specs.Points.{point_format}
use Rattle.tally.specs.Laws.{by_return_most}
use Rattle.offer.specs.Offer.{count_in, is_in, growing, counted}
use Rattle.offer.specs.Steps.{Small, stand_last, total_of, sweep_by, sweep_is, in_is}
use Rattle.offer.proofs.judge_count.Goals as goal
use Rattle.offer.proofs.judge_count.Goals.{After-already_in, After-of-o, Else-count-believed, Start}

-- the outline is the header's; its records are there, in the file and offered, and have 1 to 65,535 bytes
module _ (x : After-of-o) where
  abbrev begun : Start
  begun = (goal.at.After-of-o x).Start

  abbrev o : Outline
  o = x.of-o.result

  abbrev each : ℕ
  each = o.point_data_record_length

  abbrev is : o ≡ outline_of begun.args.h
  is = x.of-o.ensures

  within : points_end o ≤ length begun.args.file.now
  within = subst (λ (u : Outline). points_end u ≤ length begun.args.file.now) (sym is) begun.requires.ready.within

  there : begun.args.n * each ≤ length begun.args.records.now
  there = subst (λ (u : Outline). begun.args.n * u.point_data_record_length ≤ length begun.args.records.now) (sym is) begun.requires.there

  long : len_of (point_format o) ≡ Ok each
  long = subst (λ (u : Outline). len_of (point_format u) ≡ Ok u.point_data_record_length) (sym is) begun.requires.ready.long

  some : 0 < each
  some = some_bytes (point_format o) each long

  most : each ≤ 65535
  most = omega (arith, len_is (point_format o) each long, len-le (point_format o) each long)

  -- so neither count is large
  few : (o.number_of_point_records ≤ length begun.args.file.now) × (begun.args.n ≤ length begun.args.records.now)
  few = (omega (arith, within, mul-le-mul_left o.number_of_point_records some), omega (arith, there, mul-le-mul_left begun.args.n some))

  small : Small begun.args.new
  small =
      let m = by_return_most (point_format (outline_of begun.args.h)) begun.args.n begun.args.records.now in
      subst Small (sym begun.requires.counts)
      (record { first = omega (arith, m.first, few.1); second = omega (arith, m.second, few.1); third = omega (arith, m.third, few.1); fourth = omega (arith, m.fourth, few.1); fifth = omega (arith, m.fifth, few.1) })

pub overflow_mul-end : goal.overflow_mul-end
overflow_mul-end c = omega (arith, within (goal.at.overflow_mul-end c).After-of-o)

pub overflow_add-end : goal.overflow_add-end
overflow_add-end c = omega (arith, within (goal.at.overflow_add-end c).After-of-o)

pub overflow_mul-bytes : goal.overflow_mul-bytes
overflow_mul-bytes c = omega (arith, there (goal.at.overflow_mul-bytes c).After-of-o)

pub overflow_add-count : goal.overflow_add-count
overflow_add-count c = omega (arith, (few (goal.at.overflow_add-count c).After-of-o).0, (few (goal.at.overflow_add-count c).After-of-o).1)

pub grow-requires : goal.grow-requires
grow-requires c =
    omega (arith, mul-le-mul_left (o (goal.at.grow-requires c).After-of-o).number_of_point_records (most (goal.at.grow-requires c).After-of-o), mul-le-mul_left (begun (goal.at.grow-requires c).After-of-o).args.n (most (goal.at.grow-requires c).After-of-o))

pub returns-then-count-believed : goal.returns-then-count-believed
unfolding counted
returns-then-count-believed c =
    let a = (begun (goal.at.returns-then-count-believed c).After-of-o).args in
    let total = c.total.ensures ∙ ap (total_of a.h.number_of_points_by_return) (begun (goal.at.returns-then-count-believed c).After-of-o).requires.counts in
    let believed : count_in a.h ≡ a.believed = ap (λ (u : Outline). u.number_of_point_records) (sym (is (goal.at.returns-then-count-believed c).After-of-o)) ∙ c.if-count-believed.true in
    rw (eq-eqb (count_in a.h) a.believed believed, sweep_is a.h a.records.now a.n)
    (c.grow.ensures ∙ λ i. growing (sweep_by (points_end (is (goal.at.returns-then-count-believed c).After-of-o i)) (a.n * (is (goal.at.returns-then-count-believed c).After-of-o i).point_data_record_length) ((is (goal.at.returns-then-count-believed c).After-of-o i).number_of_point_records + a.n) (total i)) a.file.now)

pub already_in-requires : goal.already_in-requires
already_in-requires c =
    record {
      there = omega (arith, there (goal.at.already_in-requires c).After-of-o);
      within = omega (arith, within (goal.at.already_in-requires c).After-of-o);
      last = λ e. omega (arith, add-mul (begun (goal.at.already_in-requires c).After-of-o).args.believed (begun (goal.at.already_in-requires c).After-of-o).args.n (each (goal.at.already_in-requires c).After-of-o), ap (λ (k : ℕ). k * each (goal.at.already_in-requires c).After-of-o) e);
    }

-- the count is not the one believed, and whether the records stand last is answered
other : (c : Else-count-believed) → count_in (begun (goal.at.Else-count-believed c).After-of-o).args.h ≡ (begun (goal.at.Else-count-believed c).After-of-o).args.believed → ⊥
other c e = c.if-count-believed.false (ap (λ (u : Outline). u.number_of_point_records) (is (goal.at.Else-count-believed c).After-of-o) ∙ e)

stand : (y : After-already_in) → let a = (begun (goal.at.After-already_in y).After-of-o).args in is_in a.h a.records.now a.n a.believed a.file.now ≡ y.already_in.result
stand y =
    let a = (begun (goal.at.After-already_in y).After-of-o).args in
    in_is a.h a.records.now a.n a.believed a.file.now
    ∙ sym (y.already_in.ensures ∙ λ i. stand_last (points_end (is (goal.at.After-already_in y).After-of-o i)) (a.n * (is (goal.at.After-already_in y).After-of-o i).point_data_record_length) a.records.now a.n (is (goal.at.After-already_in y).After-of-o i).number_of_point_records a.believed a.file.now)

pub returns-then-already_in : goal.returns-then-already_in
unfolding counted
returns-then-already_in c = rw (ne_eqb _ _ (other (goal.at.returns-then-already_in c).Else-count-believed), stand (goal.at.returns-then-already_in c).After-already_in, c.if-already_in.true)

pub returns : goal.returns
unfolding counted
returns c = rw (ne_eqb _ _ (other (goal.at.returns c).Else-count-believed), stand (goal.at.returns c).After-already_in, c.if-already_in.false) c.refused.ensures

pub total-requires : goal.total-requires
total-requires c = small (goal.at.total-requires c).After-of-o
