-- When a class is set, and which byte then changes.
use Rattle.std.specs.Prelude.{Result, Ok, Err}
use Rattle.rules.specs.NotAccepted.{not_accepted}
use Rattle.refusal.specs.Refused.{at_record}
use Rattle.refusal.specs.declared.Refused.{Refused}
use Rattle.rules.specs.declared.NotAccepted.{NotAccepted}
use Rattle.std.specs.Prelude.{ℕ, ◌+◌, ◌≤◌, ◌<◌, Bool, ◌&&◌, not, ◌⊎◌, List, leb, set}
use Rattle.std.proofs.Math.Path.{◌≡◌, refl, ap}
use Rattle.std.proofs.Common.{sym, ◌∙◌, inl, inr}
use Rattle.std.proofs.Math.Bool.{true, false, cond}
use native.Mathlib.Omega.{arith}
use borrow.Author.Tests.{lt-ltb, le-ltb, le-leb, lt-leb, ltb-true, ltb-false, leb-true}
use Rattle.std.proofs.Math.Dec.{ltb}
use Rattle.le.specs.Le.{num}
use Rattle.refusal.specs.declared.Refusal.{Refusal}
use Rattle.refusal.specs.declared.Refusal.TheVariants.{Index, Class}
use Rattle.outline.specs.declared.Outline.{Outline}
use Rattle.point.specs.Class.{class_place, class_in}
use Rattle.file.specs.Rules.{checked_of}
use Rattle.cursor.specs.Parts.{outline_in}
use Rattle.reclassify.specs.declared.Change.{Change}
use Rattle.reclassify.specs.Reclassify.{is_extended, record_at, change_at, asked_in, asked_by, asked_of, reclassified_by, reclassified_of}

-- where the i-th point of the file s has its class
abbrev pub class_at : ℕ → List ℕ → ℕ
class_at i s = record_at (outline_in s) i + class_place (is_extended (outline_in s))

-- none of the refusals holds
pub record Applies (a i c : ℕ) (s : List ℕ) : Type 0 where
  pub found : ℕ
  pub accepted : checked_of a s ≡ Ok found
  pub some : 0 < i
  pub there : i ≤ (outline_in s).number_of_point_records
  pub fits : is_extended (outline_in s) ≡ false → c ≤ 31

module _ (a i c : ℕ) (s : List ℕ) where
  abbrev o : Outline
  o = outline_in s

  abbrev extended : Bool
  extended = is_extended o

  abbrev change : Change
  change = change_at extended (class_at i s) c s

  class-fits : (e : Bool) → (e ≡ false → c ≤ 31) → not e && ltb 31 c ≡ false
  class-fits true h = refl
  class-fits false h = le-ltb 31 c (h refl)

  pub asked_applies : Applies a i c s → asked_of a i c s ≡ Ok change
  unfolding asked_of asked_in
  asked_applies d = rw (d.accepted, lt-ltb 0 i d.some, le-leb i _ d.there, class-fits extended d.fits)

  pub applies_asked : {x : Change} → asked_of a i c s ≡ Ok x → Applies a i c s
  unfolding asked_of asked_in
  applies_asked {x} = go (checked_of a s) refl
    where
      fitting : (n : ℕ) → checked_of a s ≡ Ok n → 0 < i → i ≤ o.number_of_point_records → (e : Bool) → extended ≡ e → (b : Bool) → ltb 31 c ≡ b → cond (not e && b) (Err (at_record (Class c) 0)) (Ok change) ≡ Ok x → Applies a i c s
      fitting n p some there true q b r y = record { found = n; accepted = p; some = some; there = there; fits = λ old. let z : ◌≡◌ {A = ℕ} 0 1 = cc in absurd (omega arith) }
      fitting n p some there false q true r y = let z : ◌≡◌ {A = ℕ} 0 1 = cc in absurd (omega arith)
      fitting n p some there false q false r y = record { found = n; accepted = p; some = some; there = there; fits = λ old. ltb-false 31 c r }

      within : (n : ℕ) → checked_of a s ≡ Ok n → (b d : Bool) → ltb 0 i ≡ b → leb i o.number_of_point_records ≡ d → cond (b && d) (cond (not extended && ltb 31 c) (Err (at_record (Class c) 0)) (Ok change)) (Err (at_record (Index o.number_of_point_records) 0)) ≡ Ok x → Applies a i c s
      within n p true true q r y = fitting n p (ltb-true 0 i q) (leb-true i _ r) extended refl (ltb 31 c) refl y
      within n p true false q r y = let z : ◌≡◌ {A = ℕ} 0 1 = cc in absurd (omega arith)
      within n p false d q r y = let z : ◌≡◌ {A = ℕ} 0 1 = cc in absurd (omega arith)

      go : (k : Result ℕ NotAccepted) → checked_of a s ≡ k → asked_by k i c s ≡ Ok x → Applies a i c s
      go (Ok n) p y = within n p (ltb 0 i) (leb i o.number_of_point_records) refl refl y
      go (Err err) p y = let z : ◌≡◌ {A = ℕ} 0 1 = cc in absurd (omega arith)

  -- by what is asked
  pub done_by_lem : {x : Result Change Refused} → asked_of a i c s ≡ x → reclassified_of a i c s ≡ reclassified_by x s
  unfolding reclassified_of
  done_by_lem p = ap (λ (x : Result Change Refused). reclassified_by x s) p

  pub applies_done : Applies a i c s → reclassified_of a i c s ≡ (Ok change.class, set s (class_at i s) change.byte)
  applies_done d = done_by_lem (asked_applies d)

  -- the class that is answered is that of the byte
  pub class-was : {w : ℕ} → Applies a i c s → (reclassified_of a i c s).0 ≡ Ok w → class_in extended (num 1 (class_at i s) s) ≡ w
  class-was {w} d set = let e : Ok (class_in extended (num 1 (class_at i s) s)) ≡ Ok w = sym (ap (λ (x : Result ℕ Refused × List ℕ). x.0) (applies_done d)) ∙ set in cc

  by_asked : (P : Result ℕ Refused × List ℕ → Type 0) → ((x : Change) → asked_of a i c s ≡ Ok x → P (Ok x.class, set s x.at x.byte)) → ((r : Refusal) (k : ℕ) → P (Err (at_record r k), s)) → P (reclassified_of a i c s)
  unfolding reclassified_of
  by_asked P byte refused = go (asked_of a i c s) refl
    where
      go : (x : Result Change Refused) → asked_of a i c s ≡ x → P (reclassified_by x s)
      go (Ok x) p = byte x p
      go (Err err) p = refused err.refusal err.«record»

  pub done_applies : {w : ℕ} → (reclassified_of a i c s).0 ≡ Ok w → Applies a i c s
  done_applies {w} = by_asked (λ y. y.0 ≡ Ok w → Applies a i c s) (λ x p y. applies_asked p) (λ r k y. let z : ◌≡◌ {A = ℕ} 0 1 = cc in absurd (omega arith))

  pub left_alone : ((w : ℕ) → (reclassified_of a i c s).0 ≡ Ok w → ⊥) → (reclassified_of a i c s).1 ≡ s
  left_alone = by_asked (λ y. ((w : ℕ) → y.0 ≡ Ok w → ⊥) → y.1 ≡ s) (λ x p never. absurd (never x.class refl)) (λ r k never. refl)

  -- the refusals
  pub by_file : {r : Refusal} {k n : ℕ} → checked_of a s ≡ Err (not_accepted r k n) → reclassified_of a i c s ≡ (Err (at_record r k), s)
  unfolding reclassified_of asked_of
  by_file p = rw p

  module _ {n : ℕ} (p : checked_of a s ≡ Ok n) where
    pub by_index : (i ≡ 0) ⊎ (o.number_of_point_records < i) → reclassified_of a i c s ≡ (Err (at_record (Index o.number_of_point_records) 0), s)
    unfolding reclassified_of asked_of asked_in
    by_index (inl none) = rw (p, none)
    by_index (inr past) = let some : 0 < i = omega arith in rw (p, lt-ltb 0 i some, lt-leb i o.number_of_point_records past)

    pub by_class : 0 < i → i ≤ o.number_of_point_records → extended ≡ false → 31 < c → reclassified_of a i c s ≡ (Err (at_record (Class c) 0), s)
    unfolding reclassified_of asked_of asked_in
    by_class some there old over = rw (p, lt-ltb 0 i some, le-leb i _ there, old, lt-ltb 31 c over)
