use Prim.Native.Nat.{◌+◌}
use mathlib.Core.Path.{◌≡◌, refl, ap, sym, ◌∙◌}
use mathlib.Core.List.{List, []}
use native.Mathlib.Omega.{arith}
use Prim.Native.Nat.{ℕ}
use lib.ListN.{length, drop, get_or, drop_of_length-le}
use lib.Seq.{sets, length-sets}
use Rattle.le.specs.Le.{bytes}
use Rattle.directory_write.specs.Written.{number_bytes}
use Rattle.directory_write.specs.Laws.{next-number}
use Rattle.directory_write.proofs.store_numbers.Goals as goal

pub overflow_add-to : goal.overflow_add-to
overflow_add-to c = record { fits = omega (arith, c.loop-number.invariant.1, c.loop-number-test.true, c.requires) }

pub loop-number-preserved : goal.loop-number-preserved
loop-number-preserved c =
    let l = c.loop-number in
    let xs = c.args.numbers.now in
    let stored : c.set_u16.new.d ≡ sets l.dst l.to (bytes 2 (get_or xs l.number-index 0)) = c.set_u16.ensures in (
      omega (arith, c.loop-number-test.true),
      omega (arith, l.invariant.1),
      ap length stored ∙ length-sets l.dst l.to (bytes 2 (get_or xs l.number-index 0)) ∙ l.invariant.2,
      ap (λ (d : List ℕ). sets d (l.to + 2) (number_bytes (drop (l.number-index + 1) xs))) stored ∙ sym (next-number l.dst xs l.to l.number-index (omega (arith, c.loop-number-test.true))) ∙ l.invariant.3,
    )

pub returns : goal.returns
unfolding number_bytes
returns c =
    let l = c.loop-number in
    let xs = c.args.numbers.now in
    let none : number_bytes (drop l.number-index xs) ≡ [] = ap number_bytes (drop_of_length-le xs {i = l.number-index} (omega (arith, c.loop-number-test.false))) in
    rw none at l.invariant.3

pub loop-number-init : goal.loop-number-init
loop-number-init c = (omega arith, omega arith, refl, refl)

pub shape_of-dst : goal.shape_of-dst
shape_of-dst c = c.loop-number.invariant.2
