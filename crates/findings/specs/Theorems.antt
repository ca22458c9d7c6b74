-- What is promised of the findings of a file: document 02, No. 12. `Broken` says which rule is broken where.
use Rattle.std.specs.Prelude.{Ok, Err, ℕ, ◌*◌, ◌≤◌, ◌<◌, ◌≡◌, ◌↔◌, ◌⊎◌, List, ◌∷◌, ◌++◌, length, drop}
use Rattle.rules.specs.NotAccepted.{not_accepted}
use Rattle.refusal.specs.Refused.{at_record}
use Rattle.std.proofs.Common.{arith}
use Rattle.refusal.specs.declared.Refusal.{Refusal}
use Rattle.refusal.specs.declared.Refusal.TheVariants.{NoRoom}
use Rattle.file.specs.Rules.{checked_of}
use Rattle.finding.specs.declared.Finding.{Finding}
use Rattle.finding.specs.Told.{all_numbers}
use Rattle.findings.specs.Found.{found_of}
use Rattle.findings.specs.Answer.{findings_of}
use Rattle.findings.specs.Broken.{Among, InOrder, Broken}
use Rattle.findings.specs.Inside.{all_inside}
use Rattle.findings.specs.Exactly.{told_broken, broken_told}
use Rattle.findings.specs.Order as order
use Rattle.findings.specs.Refused as refused

-- "For an accepted file":
module _ (allowance : ℕ) (s : List ℕ) {n : ℕ} (accepted : checked_of allowance s ≡ Ok n) where
  -- "and no other is given": a finding is one of the list exactly where its rule is broken there.
  pub exactly : (f : Finding) → Among f (found_of s) ↔ Broken s f
  exactly f = (told_broken allowance s accepted f, broken_told allowance s accepted f)

  -- "list in file order", "findings at the same place follow the order of this list": each stands before all after it, by byte and then by rule,
  pub in_order : InOrder (found_of s)
  in_order = order.in_order 0 (8 * length s) (found_of s) (all_inside allowance s accepted).rising

  -- so "Each finding stands exactly once": it is none of those before it, and none of those after it.
  pub once : (xs ys : List Finding) (f : Finding) → found_of s ≡ xs ++ (f ∷ ys) → (Among f xs → ⊥) × (Among f ys → ⊥)
  once xs ys f e = (order.none_before f xs ys (rw e at in_order), order.none_after f xs ys (rw e at in_order))

  -- There are no more of them than the file has bytes.
  pub few : length (found_of s) ≤ length s
  few = omega (arith, (all_inside allowance s accepted).few)

  -- Where there is room, all are told, four numbers each, at the front of the buffer d, and what lies past them is as it was;
  pub told : (d : List ℕ) → length (found_of s) * 4 ≤ length d → findings_of allowance s d ≡ (Ok (length (found_of s)), all_numbers (found_of s) ++ drop (length (found_of s) * 4) d)
  told = refused.with_room allowance s accepted

  -- "no room for the findings, giving how many there are".
  pub refused-room : (d : List ℕ) → length d < length (found_of s) * 4 → findings_of allowance s d ≡ (Err (at_record (NoRoom (length (found_of s))) 0), d)
  refused-room = refused.without allowance s accepted

-- "Refusals, in order: the file's own;
pub refused_file : (allowance : ℕ) (s d : List ℕ) {r : Refusal} {k n : ℕ} → checked_of allowance s ≡ Err (not_accepted r k n) → findings_of allowance s d ≡ (Err (at_record r k), d)
refused_file = refused.by_file

-- Refused exactly then, and a refusal leaves the buffer as it was.
pub refused_exactly : (allowance : ℕ) (s d : List ℕ) {r : Refusal} {k : ℕ}
    → ((findings_of allowance s d).0 ≡ Err (at_record r k)) ↔ (((n : ℕ) × (checked_of allowance s ≡ Err (not_accepted r k n))) ⊎ ((n : ℕ) × (checked_of allowance s ≡ Ok n) × (length d < length (found_of s) * 4) × (r ≡ NoRoom (length (found_of s))) × (k ≡ 0)))
refused_exactly allowance s d {r} {k} = refused.exactly allowance s d r k

pub untouched : (allowance : ℕ) (s d : List ℕ) {r : Refusal} {k : ℕ} → (findings_of allowance s d).0 ≡ Err (at_record r k) → (findings_of allowance s d).1 ≡ d
untouched allowance s d {r} {k} = refused.untouched allowance s d r k
