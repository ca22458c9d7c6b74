-- What a cursor's start says of the file.
use Rattle.std.specs.Prelude.{Result, Ok, Err}
use Rattle.rules.specs.NotAccepted.{not_accepted}
use Rattle.refusal.specs.Refused.{at_record, refused_same}
use Rattle.refusal.specs.declared.Refused.{Refused}
use Rattle.rules.specs.declared.NotAccepted.{NotAccepted}
use Rattle.std.specs.Prelude.{ℕ, List}
use Rattle.std.proofs.Math.Path.{◌≡◌, refl, ap}
use Rattle.std.proofs.Common.{◌∙◌, arith}
use Rattle.refusal.specs.declared.Refusal.{Refusal}
use Rattle.file.specs.Rules.{checked_of}
use Rattle.cursor.specs.declared.Cursor.{Cursor}
use Rattle.cursor.specs.declared.Part.{Part}
use Rattle.cursor.specs.Parts.{outline_in, parts_of}
use Rattle.cursor.specs.Cursor.{plan_of, first_of, started_by, started_of, left_of}
use Rattle.cursor.specs.Accepted.{laid}
use Rattle.cursor.specs.Covers.{first_tells}

module _ (allowance : ℕ) (s : List ℕ) where
  -- a cursor is answered for an accepted file, and has all its parts to tell
  pub started_at : {c : Cursor} → started_of allowance s ≡ Ok c → (n : ℕ) × (checked_of allowance s ≡ Ok n) × (left_of s c ≡ parts_of (outline_in s) s)
  unfolding started_of
  started_at {c} = go (checked_of allowance s) refl
    where
      go : (x : Result ℕ NotAccepted) → checked_of allowance s ≡ x → started_by x (first_of (plan_of (outline_in s))) ≡ Ok c → (n : ℕ) × (checked_of allowance s ≡ Ok n) × (left_of s c ≡ parts_of (outline_in s) s)
      go (Ok n) e p =
          let same : c ≡ first_of (plan_of (outline_in s)) = cc in
          (n, e, ap (left_of s) same ∙ first_tells (outline_in s) s (laid allowance s e))
      go (Err err) e p = let z : ◌≡◌ {A = ℕ} 0 1 = cc in absurd (omega arith)

  -- and a refusal is the file check's
  pub started_refused : {r : Refusal} {k : ℕ} → started_of allowance s ≡ Err (at_record r k) → (n : ℕ) × (checked_of allowance s ≡ Err (not_accepted r k n))
  unfolding started_of
  started_refused {r} {k} = go (checked_of allowance s) refl
    where
      go : (x : Result ℕ NotAccepted) → checked_of allowance s ≡ x → started_by x (first_of (plan_of (outline_in s))) ≡ Err (at_record r k) → (n : ℕ) × (checked_of allowance s ≡ Err (not_accepted r k n))
      go (Ok n) e p = let z : ◌≡◌ {A = ℕ} 0 1 = cc in absurd (omega arith)
      go (Err err) e p =
          let same = refused_same p in
          (err.records, e ∙ λ i. Err (not_accepted (same.0 i) (same.1 i) err.records))

-- so what goes by a started cursor goes by the file check and the parts of the file
module _ {A : Type 0} (accepted : List Part → A) (refused : Refusal → ℕ → A) where
  -- what is made of the parts that a cursor has to tell, and of those of an accepted file
  abbrev pub by_start : List ℕ → Result Cursor Refused → A
  by_start s (Ok c) = accepted (left_of s c)
  by_start s (Err err) = refused err.refusal err.«record»

  abbrev pub by_check : List Part → Result ℕ NotAccepted → A
  by_check ps (Ok n) = accepted ps
  by_check ps (Err err) = refused err.refusal err.«record»

  pub starts : (allowance : ℕ) (s : List ℕ) → by_start s (started_of allowance s) ≡ by_check (parts_of (outline_in s) s) (checked_of allowance s)
  unfolding started_of
  starts allowance s = go (checked_of allowance s) refl
    where
      go : (x : Result ℕ NotAccepted) → checked_of allowance s ≡ x → by_start s (started_by x (first_of (plan_of (outline_in s)))) ≡ by_check (parts_of (outline_in s) s) x
      go (Ok n) e = ap accepted (first_tells (outline_in s) s (laid allowance s e))
      go (Err err) e = refl
