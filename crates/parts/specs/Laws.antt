-- What is filled is what the table's promise says.
use Rattle.std.specs.Prelude.{ℕ, ◌+◌, ◌-◌, ◌≤◌, ◌<◌, ◌≡◌, Result, Ok, Err, Bool, true, false, cond, ltb, leb, length, take, drop, set}
use Rattle.std.proofs.Math.Path.{refl}
use Rattle.std.proofs.Common.{ap, sym, ◌∙◌, zero-add, add-one, arith, le-leb, ltb-true, ltb-false}
use mathlib.Core.List.{List, ◌∷◌, ◌++◌}
use Rattle.std.proofs.lemmas.Bool.{lt-leb}
use Rattle.std.proofs.lemmas.List.Edits.{sets, sets-eq}
use Rattle.refusal.specs.declared.Refused.{Refused}
use Rattle.refusal.specs.declared.Refusal.TheVariants.{NoRoom}
use Rattle.refusal.specs.Refused.{at_record, ok_same}
use Rattle.rules.specs.declared.NotAccepted.{NotAccepted}
use Rattle.file.specs.Rules.{checked_of}
use Rattle.cursor.specs.declared.Part.{Part}
use Rattle.cursor.specs.declared.Cursor.{Cursor}
use Rattle.cursor.specs.Parts.{outline_in, parts_of}
use Rattle.cursor.specs.Cursor.{started_of, left_of}
use Rattle.cursor.specs.Started.{started_at, started_refused}
use Rattle.parts.specs.Table.{tabled_by, tabled_of, roomy_by, roomy_of}

-- one entry more is set: what is left is set after it
pub turn : (l : List Part) (at : ℕ) (left rest : List Part) (p : Part) → left ≡ p ∷ rest → sets l at left ≡ sets (set l at p) (at + 1) rest
turn l at left rest p e = rw (e, add-one)

-- all that were wanted are set
pub ended : (l : List Part) (at n : ℕ) (left : List Part) → at ≤ n → n ≤ at → sets l at (take (n - at) left) ≡ l
ended l at n left below above =
    let none : n - at ≡ 0 = omega arith in
    rw none

-- the front of a table set to a list that fits
front : (t ps : List Part) → length ps ≤ length t → sets t 0 ps ≡ ps ++ drop (length ps) t
front t ps h = sets-eq ps t 0 (rw zero-add h) ∙ rw zero-add

module _ (s : List ℕ) (room : ℕ) where
  -- a cursor that is answered has no more to tell than there is room for
  roomy_at : (x : Result Cursor Refused) {c : Cursor} → roomy_by x s room ≡ Ok c → length (left_of s c) ≤ room
  roomy_at (Ok c) {c = d} e = go (ltb room (length (left_of s c))) refl e
    where
      go : (b : Bool) → ltb room (length (left_of s c)) ≡ b → cond b (Err (at_record (NoRoom (length (left_of s c))) 0)) (Ok c) ≡ Ok d → length (left_of s d) ≤ room
      go true q h = let z : ◌≡◌ {A = ℕ} 0 1 = cc in absurd (omega arith)
      go false q h = let same = ap (λ (x : Cursor). length (left_of s x)) (ok_same h) in omega (arith, same, ltb-false room (length (left_of s c)) q)
  roomy_at (Err err) e = let z : ◌≡◌ {A = ℕ} 0 1 = cc in absurd (omega arith)

  pub roomy : (allowance : ℕ) {c : Cursor} → roomy_of allowance s room ≡ Ok c → length (left_of s c) ≤ room
  unfolding roomy_of
  roomy allowance e = roomy_at (started_of allowance s) e

-- what is answered, and the table that it leaves
abbrev pub told_of : List ℕ → List Part → Result Cursor Refused → Result ℕ Refused × List Part
told_of s t (Ok c) = (Ok (length (left_of s c)), sets t 0 (left_of s c))
told_of s t (Err err) = (Err err, t)

module _ (s : List ℕ) (t ps : List Part) (c : Cursor) (n : ℕ) (e : left_of s c ≡ ps) where
  -- of a cursor that has the parts ps to tell
  told_at : told_of s t (roomy_by (Ok c) s (length t)) ≡ tabled_by (Ok n) ps t
  told_at = go (ltb (length t) (length (left_of s c))) refl
    where
      same : length (left_of s c) ≡ length ps
      same = ap length e

      go : (b : Bool) → ltb (length t) (length (left_of s c)) ≡ b → told_of s t (cond b (Err (at_record (NoRoom (length (left_of s c))) 0)) (Ok c)) ≡ tabled_by (Ok n) ps t
      go true q = rw (lt-leb (length ps) (length t) (omega (arith, same, ltb-true (length t) (length (left_of s c)) q))) (ap (λ (qs : List Part). (Err (at_record (NoRoom (length qs)) 0), t)) e)
      go false q =
          let h : length ps ≤ length t = omega (arith, same, ltb-false (length t) (length (left_of s c)) q) in
          rw (le-leb (length ps) (length t) h)
          (ap (λ (qs : List Part). (Ok (length qs), sets t 0 qs)) e ∙ ap (λ (l : List Part). (Ok (length ps), l)) (front t ps h))

-- the answer, and the table with these entries set, are the promise
pub told_is : (allowance : ℕ) (s : List ℕ) (t : List Part) → told_of s t (roomy_of allowance s (length t)) ≡ tabled_of allowance s t
unfolding roomy_of tabled_of
told_is allowance s t = go (started_of allowance s) refl
  where
    ps : List Part
    ps = parts_of (outline_in s) s

    go : (x : Result Cursor Refused) → started_of allowance s ≡ x → told_of s t (roomy_by x s (length t)) ≡ tabled_by (checked_of allowance s) ps t
    go (Ok c) e = let a = started_at allowance s e in told_at s t ps c a.0 a.2 ∙ ap (λ (x : Result ℕ NotAccepted). tabled_by x ps t) (sym a.1)
    go (Err err) e = ap (λ (x : Result ℕ NotAccepted). tabled_by x ps t) (sym (started_refused allowance s e).1)
