use Rattle.std.specs.Prelude.{Ok}
use Prim.Native.Nat.{◌+◌, ◌-◌, ◌≤◌}
use mathlib.Core.Path.{◌≡◌, refl, sym, ◌∙◌}
use native.Mathlib.Omega.{arith}
use lib.ListN.{length, drop}
use Rattle.rules.specs.Rules.{first, record_rules}
use Rattle.rules.proofs.Walk.{none_left, refused-at, whole-at}
use Rattle.rules.proofs.check_records.Goals as goal
use Rattle.rules.proofs.check_records.Goals.{In-Ok}

pub returns-then-allowed-eq0 : goal.returns-then-allowed-eq0
returns-then-allowed-eq0 c =
    let l = c.loop in
    let a = c.args in
    c.refused_record.ensures
    ∙ sym (none_left a.extended a.allowance l.whole (drop l.at a.rest.now) (Ok (a.found + a.count)) (a.count - l.counter) (omega arith) (omega arith))
    ∙ l.invariant.4

pub returns-in-Err : goal.returns-in-Err
returns-in-Err c =
    let l = c.loop in
    let a = c.args in
    c.refused_record-in-Err.ensures
    ∙ sym (refused-at a.extended a.allowance l.whole a.rest.now l.at (Ok (a.found + a.count)) l.invariant.3 (a.count - l.counter) (omega arith) (omega arith) (sym c.measure.ensures ∙ c.in-Err.is))
    ∙ l.invariant.4

-- a record was found whole: it ends in the bytes, and the rules of the others follow
one : (c : In-Ok) →
    let m = c in
    let l = m.loop in
    let a = m.args in
    let n = c.in-Ok.n in
    let done = Ok (a.found + a.count) in
    (l.at + n ≤ length a.rest.now) × (first (record_rules a.extended a.allowance l.whole (a.count - l.counter) (drop l.at a.rest.now)) done ≡ first (record_rules a.extended a.allowance (l.whole + 1) (a.count - l.counter - 1) (drop (l.at + n) a.rest.now)) done)
one c =
    let l = c.loop in
    let a = c.args in
    whole-at a.extended a.allowance l.whole a.rest.now l.at (Ok (a.found + a.count)) l.invariant.3 (a.count - l.counter) c.in-Ok.n (omega arith) (omega arith) (sym c.measure.ensures ∙ c.in-Ok.is)

pub loop-preserved : goal.loop-preserved
loop-preserved c =
    let fewer : c.args.count - (c.loop.counter + 1) ≡ c.args.count - c.loop.counter - 1 = omega arith in
    rw fewer (omega arith, omega arith, omega arith, (one c).0, sym (one c).1 ∙ c.loop.invariant.4)

pub returns : goal.returns
unfolding first record_rules
returns c =
    let e : c.args.count - c.loop.counter ≡ 0 = omega arith in
    let all : c.loop.whole ≡ c.args.found + c.args.count = omega arith in
    rw all (rw e at c.loop.invariant.4)

pub loop-init : goal.loop-init
loop-init c =
    let all : c.args.count - 0 ≡ c.args.count = omega arith in
    rw all (omega arith, omega arith, c.unspent-allowed.ensures, omega arith, refl)

pub overflow_add-at : goal.overflow_add-at
overflow_add-at c = omega (arith, (one c).0)
