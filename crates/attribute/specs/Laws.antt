-- Laws of attributes: one descriptor more, and what each test of the definitions says.
use Rattle.std.specs.Prelude.{Some, None, Ok, Err}
use Rattle.attribute.specs.NamedAt.{named_at, named_same}
use Rattle.refusal.specs.Refused.{at_record}
use Rattle.std.specs.Prelude.{ℕ, zero, suc, ◌+◌, ◌*◌, ◌-◌, ◌/◌, ◌%◌, ◌≤◌, ◌<◌, Bool, ◌&&◌, List, length, take, drop}
use Rattle.std.proofs.Math.Path.{◌≡◌, refl, ap}
use Rattle.std.proofs.Common.{sym, ◌∙◌, arith}
use Rattle.std.proofs.Math.Bool.{true, false, cond, and-false}
use borrow.Author.Tests.{le-leb, lt-leb, lt-ltb, le-ltb, leb-true, eq-eqb, ne_eqb, eqb-true}
use Rattle.std.proofs.Math.Dec.{leb, eqb}
use Rattle.std.proofs.Math.Seq.{drop-drop}
use Rattle.le.specs.Le.{num}
use Rattle.le.specs.Part.{num-drop}
use Rattle.refusal.specs.declared.Refusal.TheVariants.{DescriptorBytes, DataType, AttributeSizes}
use Rattle.descriptor.specs.Sizes.{size_of}
use Rattle.descriptor.specs.Descriptor.{type_in, name_in}
use Rattle.outline.specs.declared.Outline.{Outline}
use Rattle.file.specs.Points.{point_format}
use Rattle.names.specs.Names.{is_named}
use Rattle.attribute.specs.declared.Attributes.{Attributes}
use Rattle.attribute.specs.Attributes.{size_in, size_at, types_known, sizes_of, before_first, described_in, has_next, attribute_at, after, step_of, next_of}
use Rattle.attribute.specs.Find.{named_from}

-- a descriptor's type and size, read at its place
pub type_at : (s : List ℕ) (at : ℕ) → num 1 (at + 2) s ≡ type_in (drop at s)
type_at s at = sym (num-drop 1 2 at s)

pub size_by : (s : List ℕ) (at : ℕ) → size_of (num 1 (at + 2) s) (num 1 (at + 3) s) ≡ size_at at s
unfolding size_in
size_by s at = sym (λ i. size_of (num-drop 1 2 at s i) (num-drop 1 3 at s i))

-- and its name
pub name_at : (s : List ℕ) (at : ℕ) → name_in (drop at s) ≡ take (at + 36 - (at + 4)) (drop (at + 4) s)
name_at s at =
    let long : 32 ≡ at + 36 - (at + 4) = omega arith in
    rw drop-drop (ap (λ (n : ℕ). take n (drop (at + 4) s)) long)

-- one of `left` descriptors, at a place of d
module _ (d : List ℕ) (at left : ℕ) (some : 0 < left) where
  one : left ≡ suc (left - 1)
  one = omega arith

  pub types_turn : types_known left (drop at d) ≡ leb (type_in (drop at d)) 10 && types_known (left - 1) (drop (at + 192) d)
  unfolding types_known
  types_turn = ap (λ (k : ℕ). types_known k (drop at d)) one ∙ rw drop-drop

  pub sizes_turn : sizes_of left (drop at d) ≡ size_at at d + sizes_of (left - 1) (drop (at + 192) d)
  unfolding sizes_of
  sizes_turn = ap (λ (k : ℕ). sizes_of k (drop at d)) one ∙ rw drop-drop

  module _ (name : List ℕ) (place : ℕ) where
    pub named_here : is_named (name_in (drop at d)) name ≡ true → named_from name left at place (drop at d) ≡ Some (named_at at place)
    unfolding named_from
    named_here e = ap (λ (k : ℕ). named_from name k at place (drop at d)) one ∙ rw e

    pub named_later : is_named (name_in (drop at d)) name ≡ false → named_from name left at place (drop at d) ≡ named_from name (left - 1) (at + 192) (place + size_at at d) (drop (at + 192) d)
    unfolding named_from
    named_later e = ap (λ (k : ℕ). named_from name k at place (drop at d)) one ∙ rw (e, drop-drop)

-- a descriptor with the name is one of those that are searched, and the values before its own are some of theirs
pub named_within : (name : List ℕ) (n k place : ℕ) (d : List ℕ) {a p : ℕ} → named_from name n k place d ≡ Some (named_at a p) → (a + 192 ≤ k + n * 192) × (p ≤ place + sizes_of n d)
unfolding named_from sizes_of
named_within name zero k place d e = let z : ◌≡◌ {A = ℕ} 0 1 = cc in absurd (omega arith)
named_within name (suc n) k place d {a} {p} e = go (is_named (name_in d) name) (named_within name n (k + 192) (place + size_in d) (drop 192 d)) e
  where
    go : (b : Bool) → (named_from name n (k + 192) (place + size_in d) (drop 192 d) ≡ Some (named_at a p) → (a + 192 ≤ k + 192 + n * 192) × (p ≤ place + size_in d + sizes_of n (drop 192 d))) → cond b (Some (named_at k place)) (named_from name n (k + 192) (place + size_in d) (drop 192 d)) ≡ Some (named_at a p) → (a + 192 ≤ k + suc n * 192) × (p ≤ place + (size_in d + sizes_of n (drop 192 d)))
    go true later e =
        let at : k ≡ a = (named_same e).0 in
        let is : place ≡ p = (named_same e).1 in
        (omega arith, omega arith)
    go false later e = (omega (arith, (later e).0), omega (arith, (later e).1))

-- the answers on a VLR's data, test by test
module _ (o : Outline) (start : ℕ) (d : List ℕ) where
  abbrev count : ℕ
  count = length d / 192

  pub not_a_multiple : (length d % 192 ≡ 0 → ⊥) → described_in o start d ≡ Err (at_record DescriptorBytes 0)
  unfolding described_in
  not_a_multiple h = rw (ne_eqb _ _ h)

  module _ (multiple : length d % 192 ≡ 0) where
    pub type_unknown : types_known count d ≡ false → described_in o start d ≡ Err (at_record DataType 0)
    unfolding described_in
    type_unknown e = rw (eq-eqb _ _ multiple, e)

    module _ (types : types_known count d ≡ true) where
      pub sizes_over : leb (sizes_of count d) (point_format o).extra_bytes ≡ false → described_in o start d ≡ Err (at_record AttributeSizes 0)
      unfolding described_in
      sizes_over e = rw (eq-eqb _ _ multiple, types, e)

      pub described : leb (sizes_of count d) (point_format o).extra_bytes ≡ true → described_in o start d ≡ Ok (before_first o start count)
      unfolding described_in
      described e = rw (eq-eqb _ _ multiple, types, e)

  -- and what it says that there is a place before the first
  pub described_says : {c : Attributes} → described_in o start d ≡ Ok c → (length d % 192 ≡ 0) × (types_known count d ≡ true) × (sizes_of count d ≤ (point_format o).extra_bytes) × (c ≡ before_first o start count)
  unfolding described_in
  described_says {c} = go (eqb (length d % 192) 0) (types_known count d) (leb (sizes_of count d) (point_format o).extra_bytes) refl refl refl
    where
      go : (x y z : Bool) → eqb (length d % 192) 0 ≡ x → types_known (length d / 192) d ≡ y → leb (sizes_of (length d / 192) d) (point_format o).extra_bytes ≡ z → cond x (cond y (cond z (Ok (before_first o start (length d / 192))) (Err (at_record AttributeSizes 0))) (Err (at_record DataType 0))) (Err (at_record DescriptorBytes 0)) ≡ Ok c → (length d % 192 ≡ 0) × (types_known (length d / 192) d ≡ true) × (sizes_of (length d / 192) d ≤ (point_format o).extra_bytes) × (c ≡ before_first o start (length d / 192))
      go true true true a b e p = (eqb-true _ _ a, b, leb-true _ _ e, cc)
      go true true false a b e p = let z : ◌≡◌ {A = ℕ} 0 1 = cc in absurd (omega arith)
      go true false z a b e p = let z : ◌≡◌ {A = ℕ} 0 1 = cc in absurd (omega arith)
      go false y z a b e p = let z : ◌≡◌ {A = ℕ} 0 1 = cc in absurd (omega arith)

-- where there is no attribute
module _ (s : List ℕ) (c : Attributes) where
  none : has_next s c ≡ false → next_of s c ≡ None
  unfolding next_of
  none e = rw e

  pub none_left : c.left ≡ 0 → next_of s c ≡ None
  unfolding has_next
  none_left e = none (rw (le-ltb 0 c.left (omega arith)))

  pub no_descriptor_lem : length s < c.descriptor + 192 → next_of s c ≡ None
  unfolding has_next
  no_descriptor_lem h = none (rw (lt-leb _ _ h, and-false))

  pub too_far_lem : 9223372036854775807 < c.at → next_of s c ≡ None
  unfolding has_next
  too_far_lem h = none (rw (lt-leb _ _ h, and-false, and-false))

  pub one-there : 0 < c.left → c.descriptor + 192 ≤ length s → c.at ≤ 9223372036854775807 → next_of s c ≡ Some (step_of (attribute_at s c.descriptor c.at c) c.descriptor (after s c))
  unfolding next_of has_next
  one-there h g f = rw (lt-ltb _ _ h, le-leb _ _ g, le-leb _ _ f)
