use Rattle.std.specs.Prelude.{Option, Ok}
use Rattle.attribute.specs.declared.Named.{Named}
use Prim.Native.Nat.{ℕ, ◌+◌, ◌*◌, ◌-◌, ◌≤◌}
use mathlib.Core.Path.{◌≡◌, ap, sym, subst, ◌∙◌}
use mathlib.Core.List.{List}
use native.Mathlib.Omega.{arith}
use lib.ListN.{length, take, drop, length-drop}
use lib.Seq.{length-take-le}
use Rattle.attribute.specs.declared.Attributes.{Attributes}
use Rattle.attribute.specs.Attributes.{sizes_of, attribute_at}
use Rattle.attribute.specs.Find.{Ready, named_from, descriptors_of, searched_by, searched_in}
use Rattle.attribute.specs.Laws.{type_at, named_within}
use Rattle.attribute.proofs.search.Goals as goal
use Rattle.attribute.proofs.search.Goals.{After-named_in, In-Some, Start}

-- the descriptors that are searched
part : (c : Attributes) (s : List ℕ) → take (c.descriptor + c.left * 192 - c.descriptor) (drop c.descriptor s) ≡ descriptors_of c s
part c s = let long : c.descriptor + c.left * 192 - c.descriptor ≡ c.left * 192 = omega arith in ap (λ (n : ℕ). take n (drop c.descriptor s)) long

searchable : (c : Attributes) (s : List ℕ) → Ready c s → (c.left * 192 ≤ length (descriptors_of c s)) × (sizes_of c.left (descriptors_of c s) ≤ 65535)
searchable c s r = (omega (arith, length-take-le (c.left * 192) (drop c.descriptor s) (rw length-drop (omega (arith, r.descriptors)))), r.sizes)

pub named_in-requires : goal.named_in-requires
named_in-requires c =
    let a = c.args in
    subst (λ (d : List ℕ). (a.c.left * 192 ≤ length d) × (sizes_of a.c.left d ≤ 65535)) (sym (part a.c a.file.now)) (searchable a.c a.file.now c.requires)

-- what was found among them
module _ (n : After-named_in) where
  abbrev start : Start
  start = (goal.at.After-named_in n).Start

  abbrev s : List ℕ
  s = start.args.file.now

  told : {x : Option Named} → n.named_in.result ≡ x → named_from start.args.name.now start.args.c.left 0 0 (descriptors_of start.args.c s) ≡ x
  told is = ap (named_from start.args.name.now start.args.c.left 0 0) (sym (part start.args.c s)) ∙ sym n.named_in.ensures ∙ is

  by : {x : Option Named} → n.named_in.result ≡ x → searched_by start.args.c s x ≡ searched_in start.args.name.now start.args.c s
  unfolding searched_in
  by is = ap (searched_by start.args.c s) (sym (told is))

-- and that it is one of them
module _ (k : In-Some) where
  abbrev n : After-named_in
  n = (goal.at.In-Some k).After-named_in

  inside : (k.in-Some.named.descriptor + 192 ≤ (start n).args.c.left * 192) × (k.in-Some.named.place ≤ sizes_of (start n).args.c.left (descriptors_of (start n).args.c (s n)))
  inside =
      let h = named_within (start n).args.name.now (start n).args.c.left 0 0 (descriptors_of (start n).args.c (s n)) (told n k.in-Some.is) in
      (omega (arith, h.0), omega (arith, h.1))

  ends : (start n).args.c.descriptor + k.in-Some.named.descriptor + 192 ≤ length (s n)
  ends = omega (arith, inside.0, (start n).requires.descriptors)

  near : (start n).args.c.at + k.in-Some.named.place ≤ length (s n) + 65602
  near = omega (arith, inside.1, (start n).requires.sizes, (start n).requires.near)

pub returns : goal.returns
unfolding attribute_at
returns c =
    let a = (start (n (goal.at.returns c).In-Some)).args in
    let at = a.c.descriptor + c.in-Some.named.descriptor in
    (λ i. Ok (record { data_type = (c.u8_at.ensures ∙ type_at a.file.now at) i; size = c.size_at.ensures.0 i; at = a.c.at + c.in-Some.named.place; stride = a.c.stride; count = a.c.count }))
    ∙ by (n (goal.at.returns c).In-Some) c.in-Some.is

pub returns-in_default : goal.returns-in_default
returns-in_default c = rw c.into.ensures (by (goal.at.returns-in_default c).After-named_in c.in_default.is)

pub overflow_add-at : goal.overflow_add-at
overflow_add-at c = omega (arith, ends (goal.at.overflow_add-at c).In-Some)

pub overflow_add-at-2 : goal.overflow_add-at-2
overflow_add-at-2 c = omega (arith, ends (goal.at.overflow_add-at-2 c).In-Some)

pub size_at-requires : goal.size_at-requires
size_at-requires c = omega (arith, ends (goal.at.size_at-requires c).In-Some)

pub overflow_add-result : goal.overflow_add-result
overflow_add-result c = omega (arith, near (goal.at.overflow_add-result c).In-Some)
