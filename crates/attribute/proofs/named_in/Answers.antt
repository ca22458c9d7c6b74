use Prim.Native.Nat.{ℕ, ◌+◌, ◌-◌, ◌*◌, ◌≤◌}
use mathlib.Core.Path.{◌≡◌, refl, ap, sym, ◌∙◌}
use mathlib.Core.Bool.{Bool}
use mathlib.Core.List.{List}
use native.Mathlib.Omega.{arith}
use lib.ListN.{drop}
use Rattle.descriptor.specs.Descriptor.{name_in}
use Rattle.names.specs.Names.{is_named}
use Rattle.attribute.specs.Find.{named_from}
use Rattle.attribute.specs.Laws.{name_at, sizes_turn, named_here, named_later}
use Rattle.attribute.proofs.named_in.Goals as goal
use Rattle.attribute.proofs.named_in.Goals.{After-is_named, After-size_at-place}

-- the field that was compared is the descriptor's name
here : (n : After-is_named) {b : Bool} → n.is_named.result ≡ b → (let l = n.loop-i in let a = n.args in is_named (name_in (drop (l.i * 192) a.«data».now)) a.name.now ≡ b)
here n is =
    let l = n.loop-i in
    let a = n.args in
    ap (λ (x : List ℕ). is_named x a.name.now) (name_at a.«data».now (l.i * 192)) ∙ sym n.is_named.ensures ∙ is

pub returns-then-is_named : goal.returns-then-is_named
returns-then-is_named c =
    let l = c.loop-i in
    let a = c.args in
    sym (named_here a.«data».now (l.i * 192) (a.count - l.i) (omega arith) a.name.now l.place (here (goal.at.returns-then-is_named c).After-is_named c.if-is_named.true)) ∙ l.invariant.2

pub loop-i-preserved : goal.loop-i-preserved
loop-i-preserved c =
    let l = c.loop-i in
    let a = c.args in
    let fewer : a.count - (l.i + 1) ≡ a.count - l.i - 1 = omega arith in
    let further : (l.i + 1) * 192 ≡ l.i * 192 + 192 = omega arith in
    let turn = sizes_turn a.«data».now (l.i * 192) (a.count - l.i) (omega arith) in
    rw (fewer, further) (
      omega arith,
      omega (arith, c.size_at-place.ensures.0, turn, l.invariant.1),
      ap (λ (k : ℕ). named_from a.name.now (a.count - l.i - 1) (l.i * 192 + 192) (l.place + k) (drop (l.i * 192 + 192) a.«data».now)) c.size_at-place.ensures.0
          ∙ sym (named_later a.«data».now (l.i * 192) (a.count - l.i) (omega arith) a.name.now l.place (here (goal.at.loop-i-preserved c).After-is_named c.if-is_named.false)) ∙ l.invariant.2,
    )

pub returns : goal.returns
unfolding named_from
returns c =
    let l = c.loop-i in
    let none : c.args.count - l.i ≡ 0 = omega arith in
    rw none at l.invariant.2

-- the sizes before it and its own are some of all
small : (c : After-size_at-place) → c.loop-i.place + c.size_at-place.result ≤ 65535
small c =
    let l = c.loop-i in
    let a = c.args in
    omega (arith, c.size_at-place.ensures.0, sizes_turn a.«data».now (l.i * 192) (a.count - l.i) (omega arith), l.invariant.1)

pub loop-i-init : goal.loop-i-init
loop-i-init c =
    let a = c.args in
    let all : a.count - 0 ≡ a.count = omega arith in
    rw all (omega arith, omega (arith, c.requires.1), refl)

pub overflow_add-place : goal.overflow_add-place
overflow_add-place c = omega (arith, small c)
