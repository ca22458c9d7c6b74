use Prim.Native.Nat.{◌+◌, ◌-◌, ◌*◌}
use mathlib.Core.Path.{◌≡◌, refl, ap, ◌∙◌}
use native.Mathlib.Omega.{arith}
use lib.ListN.{take, drop}
use Rattle.lent.specs.Laws.{less_one}
use Rattle.lent.specs.Records.{record_length_lem}
use Rattle.point.specs.Read.{point_of}
use Rattle.point.specs.Answer.{read_told}
use Rattle.strict.specs.Fit.{fit_of}
use Rattle.judge.specs.Judge.{fit_read}
use Rattle.judge.proofs.Turn.{judge_turn, none_left}
use Rattle.judge.proofs.judge_records.Goals as goal
use Rattle.judge.proofs.judge_records.Goals.{After-judge_record, At-loop-i, In-loop-i, Start}

-- in a turn there is one record, and the rest
more : (c : In-loop-i) → (c.args.count - c.loop-i.i) * c.args.m ≡ c.args.m + (c.args.count - c.loop-i.i - 1) * c.args.m
more c = less_one (c.args.count - c.loop-i.i) c.args.m (omega arith)

pub loop-i-init : goal.loop-i-init
loop-i-init c =
    let all : c.args.count - 0 ≡ c.args.count = omega arith in
    rw all (omega arith, omega (arith, c.requires.1), refl)

-- the record is a whole one, so what is said of it is said of its point
module _ (x : After-judge_record) where
  abbrev turn : At-loop-i
  turn = (goal.at.After-judge_record x).At-loop-i

  abbrev begun : Start
  begun = (goal.at.At-loop-i turn).Start

  fit_is : x.judge_record.result ≡ fit_of (point_of begun.args.format (take (turn.loop-i.at + begun.args.m - turn.loop-i.at) (drop turn.loop-i.at begun.args.src.now)))
  fit_is =
      x.judge_record.ensures
      ∙ ap fit_read (read_told begun.args.format _ begun.args.m begun.requires.0 (omega (arith, record_length_lem begun.args.m begun.args.src.now turn.loop-i.at (begun.args.count - turn.loop-i.i) (omega arith) turn.loop-i.invariant.1)))

pub returns-in-Err : goal.returns-in-Err
returns-in-Err c =
    let a = c.args in
    rw c.in-Err.is at
    (judge_turn a.format a.m a.src.now _ c.loop-i.at (a.count - c.loop-i.i) (omega arith) (fit_is (goal.at.returns-in-Err c).After-judge_record) c.loop-i.invariant.2)

pub loop-i-preserved : goal.loop-i-preserved
loop-i-preserved c =
    let a = c.args in
    let fewer : a.count - (c.loop-i.i + 1) ≡ a.count - c.loop-i.i - 1 = omega arith in
    rw fewer (
      omega arith,
      omega (arith, more (goal.at.loop-i-preserved c).In-loop-i),
      rw c.in_default.is at
          (judge_turn a.format a.m a.src.now _ c.loop-i.at (a.count - c.loop-i.i) (omega arith) (fit_is (goal.at.loop-i-preserved c).After-judge_record) c.loop-i.invariant.2),
    )

pub returns : goal.returns
returns c =
    let e : c.args.count - c.loop-i.i ≡ 0 = omega arith in
    none_left _ _ c.args.src.now _ _ (rw e at c.loop-i.invariant.2)

pub overflow_add-at : goal.overflow_add-at
overflow_add-at c = omega (arith, more c)

pub slice_bounds-judge_record-end : goal.slice_bounds-judge_record-end
slice_bounds-judge_record-end c = omega (arith, more c)

pub overflow_add-at-in-loop-i : goal.overflow_add-at-in-loop-i
overflow_add-at-in-loop-i c = omega (arith, more (goal.at.overflow_add-at-in-loop-i c).In-loop-i)
