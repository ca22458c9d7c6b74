-- When the findings are told and when they are refused, by the file check and the room.
use Rattle.std.specs.Prelude.{Result, Ok, Err, ℕ, ◌*◌, ◌/◌, ◌≤◌, ◌<◌, ◌≡◌, refl, ◌↔◌, ◌⊎◌, Bool, true, false, List, ◌++◌, ltb, length, drop}
use Rattle.rules.specs.NotAccepted.{not_accepted, refused_of}
use Rattle.refusal.specs.Refused.{at_record, refused_same}
use Rattle.refusal.specs.declared.Refused.{Refused}
use Rattle.rules.specs.declared.NotAccepted.{NotAccepted}
use Rattle.std.proofs.Common.{ap, sym, ◌∙◌, inl, inr, arith}
use borrow.Author.Tests.{lt-ltb, le-ltb, ltb-true, ltb-false}
use Rattle.refusal.specs.declared.Refusal.{Refusal}
use Rattle.refusal.specs.declared.Refusal.TheVariants.{NoRoom}
use Rattle.file.specs.Rules.{checked_of}
use Rattle.finding.specs.Told.{all_numbers}
use Rattle.findings.specs.Found.{found_of}
use Rattle.findings.specs.Answer.{findings_of}

module _ (allowance : ℕ) (s : List ℕ) {n : ℕ} (accepted : checked_of allowance s ≡ Ok n) where
  pub with_room : (d : List ℕ) → length (found_of s) * 4 ≤ length d → findings_of allowance s d ≡ (Ok (length (found_of s)), all_numbers (found_of s) ++ drop (length (found_of s) * 4) d)
  unfolding findings_of
  with_room d h = rw (accepted, le-ltb (length d / 4) (length (found_of s)) (omega arith))

  pub without : (d : List ℕ) → length d < length (found_of s) * 4 → findings_of allowance s d ≡ (Err (at_record (NoRoom (length (found_of s))) 0), d)
  unfolding findings_of
  without d h = rw (accepted, lt-ltb (length d / 4) (length (found_of s)) (omega arith))

pub by_file : (allowance : ℕ) (s d : List ℕ) {r : Refusal} {k n : ℕ} → checked_of allowance s ≡ Err (not_accepted r k n) → findings_of allowance s d ≡ (Err (at_record r k), d)
unfolding findings_of
by_file allowance s d e = rw e

-- by what the file check answers, and by the room
module _ (allowance : ℕ) (s d : List ℕ) (r : Refusal) (k : ℕ) where
  abbrev Why : Type 0
  Why = ((n : ℕ) × (checked_of allowance s ≡ Err (not_accepted r k n))) ⊎ ((n : ℕ) × (checked_of allowance s ≡ Ok n) × (length d < length (found_of s) * 4) × (r ≡ NoRoom (length (found_of s))) × (k ≡ 0))

  roomy : {n : ℕ} → checked_of allowance s ≡ Ok n → (b : Bool) → ltb (length d / 4) (length (found_of s)) ≡ b → (findings_of allowance s d).0 ≡ Err (at_record r k) → Why
  roomy {n} e true t is =
      let less : length d < length (found_of s) * 4 = omega (arith, ltb-true (length d / 4) (length (found_of s)) t) in
      let told : (findings_of allowance s d).0 ≡ Err (at_record (NoRoom (length (found_of s))) 0) = ap (λ (x : Result ℕ Refused × List ℕ). x.0) (without allowance s e d less) in
      let same = refused_same (sym is ∙ told) in
      inr (n, e, less, same.0, same.1)
  roomy e false t is =
      let told : (findings_of allowance s d).0 ≡ Ok (length (found_of s)) = ap (λ (x : Result ℕ Refused × List ℕ). x.0) (with_room allowance s e d (omega (arith, ltb-false (length d / 4) (length (found_of s)) t))) in
      let z : ◌≡◌ {A = ℕ} 0 1 = cc in
      absurd (omega arith)

  why : (x : Result ℕ NotAccepted) → checked_of allowance s ≡ x → (findings_of allowance s d).0 ≡ Err (at_record r k) → Why
  why (Ok n) e is = roomy e (ltb (length d / 4) (length (found_of s))) refl is
  why (Err err) e is =
      let told : (findings_of allowance s d).0 ≡ Err (refused_of err) = ap (λ (x : Result ℕ Refused × List ℕ). x.0) (by_file allowance s d e) in
      let same = refused_same (sym told ∙ is) in
      inl (err.records, e ∙ rw (← same.0, ← same.1))

  so : Why → findings_of allowance s d ≡ (Err (at_record r k), d)
  so (inl (n, e)) = by_file allowance s d e
  so (inr (n, e, less, refusal, number)) = without allowance s e d less ∙ rw (refusal, number)

  pub exactly : ((findings_of allowance s d).0 ≡ Err (at_record r k)) ↔ Why
  exactly = (why (checked_of allowance s) refl, λ w. ap (λ (x : Result ℕ Refused × List ℕ). x.0) (so w))

  pub untouched : (findings_of allowance s d).0 ≡ Err (at_record r k) → (findings_of allowance s d).1 ≡ d
  untouched is = ap (λ (x : Result ℕ Refused × List ℕ). x.1) (so (why (checked_of allowance s) refl is))
