use Rattle.std.specs.Prelude.{Ok, Err}
use Prim.Native.Nat.{ℕ, ◌≤◌, ◌<◌, min}
use mathlib.Core.Path.{◌≡◌, ap, sym, subst⁻¹, ◌∙◌}
use mathlib.Core.Bool.{Bool, true}
use native.Mathlib.Omega.{arith}
use lib.ListN.{length}
use Rattle.column.specs.Column.{same, filled_of}
use Rattle.attribute_value.specs.Value.{value_at}
use Rattle.attribute_value.specs.Many.{Stand, all_lie}
use Rattle.attribute_value.specs.Laws.{not-all, no_room, filled, none, all_say, stand}
use Rattle.attribute_value.proofs.column.Goals as goal
use Rattle.attribute_value.proofs.column.Goals.{After-all_lie, Else-not-all_lie, Start}

-- by whether they do
module _ (l : After-all_lie) where
  abbrev start : Start
  start = (goal.at.After-all_lie l).Start

  told : {b : Bool} → l.all_lie.result ≡ b → all_lie start.args.a start.args.first start.args.count start.args.file.now ≡ b
  told is = sym l.all_lie.ensures ∙ is

pub returns-then-not-all_lie : goal.returns-then-not-all_lie
returns-then-not-all_lie c =
    let a = (start (goal.at.returns-then-not-all_lie c).After-all_lie).args in
    (λ i. (Err (c.into.ensures i), a.dst.now)) ∙ sym (not-all a.a a.first a.count a.file.now a.dst.now (told (goal.at.returns-then-not-all_lie c).After-all_lie c.if-not-all_lie.true))

-- they all lie in the file
module _ (e : Else-not-all_lie) where
  abbrev begun : Start
  begun = start (goal.at.Else-not-all_lie e).After-all_lie

  all : all_lie begun.args.a begun.args.first begun.args.count begun.args.file.now ≡ true
  all = told (goal.at.Else-not-all_lie e).After-all_lie e.if-not-all_lie.false

  standing : 0 < begun.args.count → Stand (min begun.args.a.size 8) (value_at begun.args.a begun.args.first) begun.args.a.stride begun.args.count begun.args.file.now
  standing = stand begun.args.a begun.args.first begun.args.count begun.args.file.now begun.args.dst.now all

  -- so the first of them does
  near : 0 < begun.args.count → (0 < begun.args.first) × (value_at begun.args.a begun.args.first ≤ length begun.args.file.now)
  near some = ((all_say begun.args.a begun.args.first begun.args.count begun.args.file.now all).0.0, omega (arith, (standing some).each 0 some))

pub returns-then-dst-count : goal.returns-then-dst-count
returns-then-dst-count c =
    let a = (begun (goal.at.returns-then-dst-count c).Else-not-all_lie).args in
    (λ i. (Err (c.into-then-dst-count.ensures i), a.dst.now)) ∙ sym (no_room a.a a.first a.count a.file.now a.dst.now (all (goal.at.returns-then-dst-count c).Else-not-all_lie) (omega arith))

pub returns-then-count-eq0 : goal.returns-then-count-eq0
returns-then-count-eq0 c =
    let a = (begun (goal.at.returns-then-count-eq0 c).Else-not-all_lie).args in
    let no : a.count ≡ 0 = omega arith in
    (λ i. (Ok (sym no i), a.dst.now)) ∙ sym (none a.a a.first a.count a.file.now a.dst.now (all (goal.at.returns-then-count-eq0 c).Else-not-all_lie) no)

pub fill-requires : goal.fill-requires
fill-requires c =
    let a = (begun (goal.at.fill-requires c).Else-not-all_lie).args in
    (subst⁻¹ (λ (w : ℕ). Stand w (value_at a.a a.first) a.a.stride a.count a.file.now) c.shown.ensures (standing (goal.at.fill-requires c).Else-not-all_lie (omega arith)), omega arith)

pub returns : goal.returns
returns c =
    let a = (begun (goal.at.returns c).Else-not-all_lie).args in
    (λ i. (Ok a.count, (c.fill.ensures ∙ ap (λ (w : ℕ). filled_of same w (value_at a.a a.first) a.a.stride a.count a.file.now a.dst.now) c.shown.ensures) i))
    ∙ sym (filled a.a a.first a.count a.file.now a.dst.now (all (goal.at.returns c).Else-not-all_lie) (omega arith))

pub overflow_sub-from : goal.overflow_sub-from
overflow_sub-from c = omega (arith, (near (goal.at.overflow_sub-from c).Else-not-all_lie (omega arith)).0)

pub overflow_mul-from : goal.overflow_mul-from
overflow_mul-from c = omega (arith, (near (goal.at.overflow_mul-from c).Else-not-all_lie (omega arith)).1)

pub overflow_add-from : goal.overflow_add-from
overflow_add-from c = omega (arith, (near (goal.at.overflow_add-from c).Else-not-all_lie (omega arith)).1)
