use Prim.Native.Nat.{ℕ, ◌+◌, ◌-◌, ◌*◌, ◌≤◌}
use mathlib.Core.Path.{◌≡◌, refl, sym, ◌∙◌}
use mathlib.Core.Bool.{Bool, true, false}
use native.Mathlib.Omega.{arith}
use borrow.Author.Tests.{le-leb, lt-leb, leb-true, leb-false}
use lib.Dec.{leb}
use lib.ListN.{drop}
use Rattle.attribute.specs.Attributes.{size_at, sizes_of}
use Rattle.attribute.specs.Laws.{sizes_turn}
use Rattle.attribute.proofs.sizes_fit.Goals as goal

-- The invariant: what is left of the room decides for the descriptors that are left.
-- a size taken from both sides
less : (all rest size room n : ℕ) → all ≡ size + rest → n ≡ size → n ≤ room → leb rest (room - n) ≡ leb all room
less all rest size room n sum is fits = go (leb rest (room - n)) refl
  where
    go : (b : Bool) → leb rest (room - n) ≡ b → b ≡ leb all room
    go true e = sym (le-leb all room (omega (arith, leb-true rest (room - n) e)))
    go false e = sym (lt-leb all room (omega (arith, leb-false rest (room - n) e)))

pub returns-then-room-size : goal.returns-then-room-size
returns-then-room-size c =
    let l = c.loop-i in
    let a = c.args in
    sym (lt-leb (sizes_of (a.count - l.i) (drop (l.i * 192) a.«data».now)) l.room (omega (arith, c.size_at-size.ensures.0, sizes_turn a.«data».now (l.i * 192) (a.count - l.i) (omega arith)))) ∙ l.invariant.1

pub loop-i-preserved : goal.loop-i-preserved
loop-i-preserved c =
    let l = c.loop-i in
    let a = c.args in
    let fewer : a.count - (l.i + 1) ≡ a.count - l.i - 1 = omega arith in
    let further : (l.i + 1) * 192 ≡ l.i * 192 + 192 = omega arith in
    rw (fewer, further) (omega arith, less (sizes_of (a.count - l.i) (drop (l.i * 192) a.«data».now)) (sizes_of (a.count - l.i - 1) (drop (l.i * 192 + 192) a.«data».now)) (size_at (l.i * 192) a.«data».now) l.room c.size_at-size.result (sizes_turn a.«data».now (l.i * 192) (a.count - l.i) (omega arith)) c.size_at-size.ensures.0 (omega arith) ∙ l.invariant.1)

pub returns : goal.returns
unfolding sizes_of
returns c =
    let l = c.loop-i in
    let none : c.args.count - l.i ≡ 0 = omega arith in
    sym (le-leb 0 l.room (omega arith)) ∙ rw none at l.invariant.1

pub loop-i-init : goal.loop-i-init
loop-i-init c =
    let a = c.args in
    let all : a.count - 0 ≡ a.count = omega arith in
    rw all (omega arith, refl)
