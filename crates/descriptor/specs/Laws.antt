-- Laws of reading: which bytes are a descriptor, and what is read of them.
use Rattle.std.specs.Prelude.{Result, Ok, Err}
use Rattle.refusal.specs.Refused.{ok_same, err_same}
use Rattle.refusal.specs.declared.Refusal.{Refusal}
use Rattle.std.specs.Prelude.{ℕ, ◌≤◌, ◌<◌, ◌≡◌, refl, Bool, true, false, ◌↔◌, List, ltb, length}
use Rattle.std.proofs.Common.{ap, sym, subst, ◌∙◌, arith}
use borrow.Author.Tests.{lt-ltb, le-ltb, ltb-true, ltb-false}
use Rattle.refusal.specs.declared.Refusal.TheVariants.{Short, DataType}
use Rattle.descriptor.specs.declared.Descriptor.{Descriptor}
use Rattle.descriptor.specs.Layout.{descriptor_size}
use Rattle.descriptor.specs.Descriptor.{type_in, options_in, name_in, descriptor_of, described_of, read_by, read_of}

-- what is answered of too few bytes, of a type above 10, and else
module _ (s : List ℕ) where
  pub too_few : length s < descriptor_size → described_of s ≡ Err (Short descriptor_size)
  unfolding described_of
  too_few h = rw (lt-ltb _ _ h)

  pub no_type : descriptor_size ≤ length s → 10 < type_in s → described_of s ≡ Err DataType
  unfolding described_of
  no_type h t = rw (le-ltb _ _ h, lt-ltb _ _ t)

  pub all_there : descriptor_size ≤ length s → type_in s ≤ 10 → described_of s ≡ (Ok tt)
  unfolding described_of
  all_there h t = rw (le-ltb _ _ h, le-ltb _ _ t)

  -- the answers of a read, each with what led to it
  data Reads : Result Unit Refusal → Type 0 where
    short : length s < descriptor_size → Reads (Err (Short descriptor_size))
    untyped : descriptor_size ≤ length s → 10 < type_in s → Reads (Err DataType)
    whole : descriptor_size ≤ length s → type_in s ≤ 10 → Reads (Ok tt)

  reads : Reads (described_of s)
  reads = go (ltb (length s) descriptor_size) (ltb 10 (type_in s)) refl refl
    where
      go : (few above : Bool) → ltb (length s) descriptor_size ≡ few → ltb 10 (type_in s) ≡ above → Reads (described_of s)
      go true above p q = let h = ltb-true _ _ p in rw (too_few h) (short h)
      go false true p q = let h = ltb-false _ _ p in let t = ltb-true _ _ q in rw (no_type h t) (untyped h t)
      go false false p q = let h = ltb-false _ _ p in let t = ltb-false _ _ q in rw (all_there h t) (whole h t)

  pub short_exactly : (described_of s ≡ Err (Short descriptor_size)) ↔ (length s < descriptor_size)
  short_exactly = (λ p. of-short (subst Reads p reads), too_few)
    where
      of-short : Reads (Err (Short descriptor_size)) → length s < descriptor_size
      of-short (short h) = h

  pub type_exactly : (described_of s ≡ Err DataType) ↔ ((descriptor_size ≤ length s) × (10 < type_in s))
  type_exactly = (λ p. of_untyped (subst Reads p reads), λ (h, t). no_type h t)
    where
      of_untyped : Reads (Err DataType) → (descriptor_size ≤ length s) × (10 < type_in s)
      of_untyped (untyped h t) = (h, t)

  pub read_exactly : (described_of s ≡ (Ok tt)) ↔ ((descriptor_size ≤ length s) × (type_in s ≤ 10))
  read_exactly = (λ p. of-whole (subst Reads p reads), λ (h, t). all_there h t)
    where
      of-whole : Reads (Ok tt) → (descriptor_size ≤ length s) × (type_in s ≤ 10)
      of-whole (whole h t) = (h, t)

-- so bytes that are taken for a descriptor are all there, and have a type of the standard
pub accepted : (s : List ℕ) → described_of s ≡ (Ok tt) → (descriptor_size ≤ length s) × (type_in s ≤ 10)
accepted s = (read_exactly s).0

-- the reader gives the descriptor where it is taken, and else what it is refused for
module _ (s : List ℕ) where
  pub read_whole : described_of s ≡ (Ok tt) → read_of s ≡ Ok (descriptor_of s)
  unfolding read_of
  read_whole p = ap (read_by (descriptor_of s)) p

  pub read_refused : {r : Refusal} → described_of s ≡ Err r → read_of s ≡ Err r
  unfolding read_of
  read_refused p = ap (read_by (descriptor_of s)) p

  pub read_says : {v : Descriptor} → read_of s ≡ Ok v → (described_of s ≡ (Ok tt)) × (v ≡ descriptor_of s)
  read_says {v} e = go (described_of s) refl
    where
      go : (x : Result Unit Refusal) → described_of s ≡ x → (described_of s ≡ (Ok tt)) × (v ≡ descriptor_of s)
      go (Ok tt) p = (p, ok_same (sym e ∙ read_whole p))
      go (Err r) p =
          let is : read_of s ≡ Err r = read_refused p in
          let z : ◌≡◌ {A = ℕ} 0 1 = cc in
          absurd (omega arith)

  pub refused_says : {r : Refusal} → read_of s ≡ Err r → described_of s ≡ Err r
  refused_says {r} e = go (described_of s) refl
    where
      go : (x : Result Unit Refusal) → described_of s ≡ x → described_of s ≡ Err r
      go (Ok tt) p =
          let is : read_of s ≡ Ok (descriptor_of s) = read_whole p in
          let z : ◌≡◌ {A = ℕ} 0 1 = cc in
          absurd (omega arith)
      go (Err y) p = p ∙ ap Err (err_same (sym (read_refused p) ∙ e))

-- its type, its options and its name
module _ (s : List ℕ) {v : Descriptor} (e : read_of s ≡ Ok v) where
  pub type_read : v.data_type ≡ type_in s
  unfolding descriptor_of
  type_read = rw (read_says s e).1

  pub options_read : v.options ≡ options_in s
  unfolding descriptor_of
  options_read = rw (read_says s e).1

  pub name_read : v.name ≡ name_in s
  unfolding descriptor_of
  name_read = rw (read_says s e).1
