use Prim.Native.Nat.{ℕ, ◌+◌, ◌-◌, ◌*◌, ◌≤◌, ◌<◌}
use mathlib.Core.Path.{◌≡◌, refl, ap, sym, ◌∙◌}
use mathlib.Core.Bool.{Bool, true, false, ◌&&◌}
use mathlib.Core.List.{List}
use native.Mathlib.Omega.{arith}
use borrow.Author.Tests.{le-leb, lt-leb}
use lib.Dec.{leb}
use lib.ListN.{drop}
use Rattle.le.specs.Le.{num}
use Rattle.descriptor.specs.Descriptor.{type_in}
use Rattle.attribute.specs.Attributes.{types_known}
use Rattle.attribute.specs.Laws.{type_at, types_turn}
use Rattle.attribute.proofs.types_known.Goals as goal

-- The invariant: what is still to be looked at decides.
-- the test, as the definition has it
above : (d : List ℕ) (at : ℕ) → 10 < num 1 (at + 2) d → leb (type_in (drop at d)) 10 ≡ false
above d at h = lt-leb (type_in (drop at d)) 10 (omega (arith, type_at d at))

known : (d : List ℕ) (at : ℕ) → num 1 (at + 2) d ≤ 10 → leb (type_in (drop at d)) 10 ≡ true
known d at h = le-leb (type_in (drop at d)) 10 (omega (arith, type_at d at))

pub returns-then-u8_at-gt10 : goal.returns-then-u8_at-gt10
returns-then-u8_at-gt10 c =
    let l = c.loop-i in
    let a = c.args in
    sym (ap (λ (b : Bool). b && types_known (a.count - l.i - 1) (drop (l.i * 192 + 192) a.«data».now)) (above a.«data».now (l.i * 192) (omega (arith, c.u8_at.ensures))))
    ∙ sym (types_turn a.«data».now (l.i * 192) (a.count - l.i) (omega arith)) ∙ l.invariant.1

pub loop-i-preserved : goal.loop-i-preserved
loop-i-preserved c =
    let l = c.loop-i in
    let a = c.args in
    let fewer : a.count - (l.i + 1) ≡ a.count - l.i - 1 = omega arith in
    let further : (l.i + 1) * 192 ≡ l.i * 192 + 192 = omega arith in
    rw (fewer, further) (omega arith, sym (types_turn a.«data».now (l.i * 192) (a.count - l.i) (omega arith) ∙ ap (λ (b : Bool). b && types_known (a.count - l.i - 1) (drop (l.i * 192 + 192) a.«data».now)) (known a.«data».now (l.i * 192) (omega (arith, c.u8_at.ensures)))) ∙ l.invariant.1)

pub returns : goal.returns
unfolding types_known
returns c =
    let l = c.loop-i in
    let none : c.args.count - l.i ≡ 0 = omega arith in
    rw none at l.invariant.1

pub loop-i-init : goal.loop-i-init
loop-i-init c =
    let a = c.args in
    let all : a.count - 0 ≡ a.count = omega arith in
    rw all (omega arith, refl)
