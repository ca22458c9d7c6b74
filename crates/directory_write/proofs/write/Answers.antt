use Rattle.std.specs.Prelude.{Ok}
use Prim.Native.Nat.{◌+◌, ◌*◌, ◌/◌}
use mathlib.Core.Path.{◌≡◌, sym, ap, ◌∙◌}
use mathlib.Core.Bool.{true}
use mathlib.Core.List.{List}
use native.Mathlib.Omega.{arith}
use Prim.Native.Nat.{ℕ}
use lib.ListN.{length, take}
use lib.Seq.{length-take-le, length-sets}
use Rattle.directory_write.specs.Written.{in_front, number_bytes}
use Rattle.directory_write.specs.Laws.{stored, all_rise, then_falling, then_many, then_short, then_written}
use Rattle.directory_write.proofs.write.Goals as goal
use Rattle.directory_write.proofs.write.Goals.{Else-not-rising}

pub returns-then-not-rising : goal.returns-then-not-rising
returns-then-not-rising c =
    let a = c.args in
    sym (then_falling a.keys.now a.dst.now (sym c.all_rising-rising.ensures ∙ c.if-not-rising.true))

rising : (x : Else-not-rising) → (let a = x.args in all_rise a.keys.now a.dst.now ≡ true)
rising x = sym x.all_rising-rising.ensures ∙ x.if-not-rising.false

pub returns-then-n-gt8190 : goal.returns-then-n-gt8190
returns-then-n-gt8190 c =
    let a = c.args in
    sym (then_many a.keys.now a.dst.now (rising (goal.at.returns-then-n-gt8190 c).Else-not-rising) c.if-n-gt8190.true)

pub returns-then-dst-wanted : goal.returns-then-dst-wanted
returns-then-dst-wanted c =
    let a = c.args in
    sym (then_short a.keys.now a.dst.now (rising (goal.at.returns-then-dst-wanted c).Else-not-rising) c.if-n-gt8190.false c.if-dst-wanted.true)

-- the numbers of all keys
long : (ks : List ℕ) → length (take (4 * (length ks / 4)) ks) ≡ 4 * (length ks / 4)
long ks = length-take-le (4 * (length ks / 4)) ks (omega arith)

pub store_numbers-requires-2 : goal.store_numbers-requires-2
store_numbers-requires-2 c =
    let d = c.args.dst.now in
    let ks = c.args.keys.now in
    omega (arith, long ks, c.if-dst-wanted.false, ap length c.store_numbers.ensures ∙ length-sets d 0 (number_bytes (in_front ks)))

pub returns : goal.returns
returns c =
    let d = c.args.dst.now in
    let ks = c.args.keys.now in
    ap (λ (l : List ℕ). (Ok (8 + 8 * (length ks / 4)), l))
    (stored ks d c.store_numbers.ensures c.store_numbers-2.ensures c.if-dst-wanted.false)
    ∙ sym (then_written ks d (rising (goal.at.returns c).Else-not-rising) c.if-n-gt8190.false c.if-dst-wanted.false)

pub slice_bounds-store_numbers-end-2 : goal.slice_bounds-store_numbers-end-2
slice_bounds-store_numbers-end-2 c = sym (long c.args.keys.now)
