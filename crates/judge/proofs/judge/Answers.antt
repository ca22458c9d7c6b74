use Prim.Native.Nat.{◌*◌, ◌≤◌, ◌<◌}
use borrow.Author.Tests.{le-ltb, lt-ltb}
use lib.ListN.{length}
use Rattle.refusal.specs.Laws.{div-le, div-lt}
use Rattle.format.specs.Laws.{some_bytes}
use Rattle.judge.specs.Judge.{judged_of}
use Rattle.judge.proofs.judge.Goals as goal
use Rattle.judge.proofs.judge.Goals.{Else-src-plan, Start}

-- The test is by division, which cannot wrap, and says what the exact product would.
-- records have bytes
source-bytes : (s : Start) → 0 < s.args.plan.source_length
source-bytes s = some_bytes s.args.plan.source _ s.requires.from

-- the source is long enough
there : (c : Else-src-plan) → c.args.count * c.args.plan.source_length ≤ length c.args.src.now
there c = div-le _ c.args.count _ (source-bytes (goal.at.Else-src-plan c).Start) c.if-src-plan.false

pub judge_records-requires : goal.judge_records-requires
judge_records-requires c =
    (c.requires.from, there (goal.at.judge_records-requires c).Else-src-plan)

pub returns-then-src-plan : goal.returns-then-src-plan
unfolding judged_of
returns-then-src-plan c =
    rw (c.into.ensures, lt-ltb _ _ (div-lt _ c.args.count _ (source-bytes (goal.at.returns-then-src-plan c).Start) c.if-src-plan.true), c.wanted-wanted.ensures)

pub returns-then-up : goal.returns-then-up
unfolding judged_of
returns-then-up c = rw (le-ltb _ _ (there (goal.at.returns-then-up c).Else-src-plan), c.if-up.true)

pub returns : goal.returns
unfolding judged_of
returns c = rw (le-ltb _ _ (there (goal.at.returns c).Else-src-plan), c.if-up.false) c.judge_records.ensures

pub nonzero_div-src : goal.nonzero_div-src
nonzero_div-src c = source-bytes (goal.at.nonzero_div-src c).Start
