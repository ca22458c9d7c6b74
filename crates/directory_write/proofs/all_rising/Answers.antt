use mathlib.Core.Path.{◌≡◌, sym}
use native.Mathlib.Omega.{arith}
use Rattle.directory.specs.Directory.{rising_at}
use Rattle.directory.specs.Laws.{every-passes, one_fails, one_more, rises, falls}
use Rattle.directory_write.specs.Written.{given_key}
use Rattle.directory_write.proofs.all_rising.Goals as goal

pub loop-k-init : goal.loop-k-init
loop-k-init c = (omega arith, λ j h. let first : j ≡ 0 = omega arith in rw first)

pub returns-then-keys-k : goal.returns-then-keys-k
unfolding given_key
returns-then-keys-k c =
    let a = c.args in
    let k = c.loop-k.k in
    sym (one_fails (rising_at (given_key a.keys.now)) a.n k c.loop-k-test.true (falls (given_key a.keys.now) k (omega (arith, c.loop-k.invariant.0)) c.if-keys-k.true))

pub loop-k-preserved : goal.loop-k-preserved
unfolding given_key
loop-k-preserved c =
    let a = c.args in
    let k = c.loop-k.k in
    (omega arith, one_more (rising_at (given_key a.keys.now)) k c.loop-k.invariant.1 (rises (given_key a.keys.now) k c.if-keys-k.false))

pub returns : goal.returns
returns c =
    let a = c.args in
    sym (every-passes (rising_at (given_key a.keys.now)) a.n (λ j h. c.loop-k.invariant.1 j (omega (arith, c.loop-k-test.false))))

pub overflow_sub-before : goal.overflow_sub-before
overflow_sub-before c = omega (arith, c.loop-k.invariant.0)

pub overflow_mul-before : goal.overflow_mul-before
overflow_mul-before c = omega (arith, c.requires)

pub overflow_mul-k : goal.overflow_mul-k
overflow_mul-k c = omega (arith, c.requires)

pub offset_bounds-keys-k : goal.offset_bounds-keys-k
offset_bounds-keys-k c = omega (arith, c.requires)

pub bounds-keys-k : goal.bounds-keys-k
bounds-keys-k c = omega (arith, c.requires)

pub offset_bounds-keys-before : goal.offset_bounds-keys-before
offset_bounds-keys-before c = omega (arith, c.requires)

pub bounds-keys-before : goal.bounds-keys-before
bounds-keys-before c = omega (arith, c.requires)
