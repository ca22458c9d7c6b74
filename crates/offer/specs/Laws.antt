-- What an offer that is not refused says, and what gives it.
use Rattle.std.specs.Prelude.{Result, Ok, Err}
use Rattle.refusal.specs.declared.Refused.{Refused}
use Rattle.rules.specs.declared.NotAccepted.{NotAccepted}
use Rattle.std.specs.Prelude.{ℕ, ◌+◌, ◌*◌, ◌^◌, ◌≤◌, ◌<◌, Bool, List, ◌↔◌, ltb, leb, length, take}
use Rattle.std.proofs.Math.Path.{◌≡◌, refl, sym, ap}
use Rattle.std.proofs.Common.{subst, ◌∙◌, arith}
use Rattle.std.proofs.Math.Bool.{true, false, cond, and-eq-true_iff}
use Rattle.std.proofs.Math.Nat.{pos_of_ne-zero}
use borrow.Author.Tests.{lt-ltb, le-ltb, le-leb, eq-eqb, ne_eqb, ltb-true, ltb-false, leb-true, eqb-true, eqb-false}
use Rattle.std.proofs.Math.Dec.{eqb}
use Rattle.refusal.specs.declared.Refusal.{Refusal}
use Rattle.refusal.specs.declared.Refusal.TheVariants.{CountNeither}
use Rattle.header.specs.declared.Header.{Header}
use Rattle.header.specs.Judged.{header_in}
use Rattle.header.specs.Laws.{eq_list-refl, eq_list-true}
use Rattle.file.specs.Rules.{checked_of}
use Rattle.offer.specs.declared.Sweep.{Sweep}
use Rattle.offer.specs.declared.Offer.{Offer}
use Rattle.offer.specs.declared.Offer.TheVariants.{Add, AlreadyIn}
use Rattle.offer.specs.Offer.{count_in, record_length, last_bytes, is_in, sweep_of, counts_fit, no, growing, counted, offered, offer_by, offer_of}

-- none of the counts is over 2^32 - 1
pub record CountsFit (w : Sweep) : Type 0 where
  pub points : w.points < 2 ^ 32
  pub first : w.first < 2 ^ 32
  pub second : w.second < 2 ^ 32
  pub third : w.third < 2 ^ 32
  pub fourth : w.fourth < 2 ^ 32
  pub fifth : w.fifth < 2 ^ 32

-- an offer that can be judged: of some records, all there, to an accepted file of version 1.2
pub record Proper (allowance : ℕ) (records : List ℕ) (n : ℕ) (s : List ℕ) : Type 0 where
  pub found : ℕ
  pub accepted : checked_of allowance s ≡ Ok found
  pub version : (header_in s).version.minor ≡ 2
  pub some : 0 < n
  pub there : n * record_length (header_in s) ≤ length records

-- "Count as believed": the records are to be added, every count fits its field, and there is room for them
pub record Adds (allowance : ℕ) (records : List ℕ) (n believed : ℕ) (s : List ℕ) (w : Sweep) : Type 0 where
  pub proper : Proper allowance records n s
  pub count : count_in (header_in s) ≡ believed
  pub sweep : w ≡ sweep_of (header_in s) records n
  pub fit : CountsFit w
  pub room : w.at + w.bytes ≤ length s

-- "Count higher by exactly n with those same bytes last"
pub record Stands (allowance : ℕ) (records : List ℕ) (n believed : ℕ) (s : List ℕ) : Type 0 where
  pub proper : Proper allowance records n s
  pub count : count_in (header_in s) ≡ believed + n
  pub last : last_bytes (header_in s) n s ≡ take (n * record_length (header_in s)) records

-- the test of the counts says that
module _ (w : Sweep) where
  pub counts-fit : counts_fit w ≡ true → CountsFit w
  unfolding counts_fit
  counts-fit e =
      let p = (and-eq-true_iff _ _).0 e in
      let a = (and-eq-true_iff _ _).0 p.1 in
      let b = (and-eq-true_iff _ _).0 a.1 in
      let c = (and-eq-true_iff _ _).0 b.1 in
      let d = (and-eq-true_iff _ _).0 c.1 in
      record { points = ltb-true _ _ p.0; first = ltb-true _ _ a.0; second = ltb-true _ _ b.0; third = ltb-true _ _ c.0; fourth = ltb-true _ _ d.0; fifth = ltb-true _ _ d.1 }

  pub fit_counts : CountsFit w → counts_fit w ≡ true
  unfolding counts_fit
  fit_counts f =
      rw (lt-ltb _ _ f.points, lt-ltb _ _ f.first, lt-ltb _ _ f.second, lt-ltb _ _ f.third, lt-ltb _ _ f.fourth, lt-ltb _ _ f.fifth)

-- an answer that is no refusal
abbrev Answer : Result Offer Refused → Type 0
Answer (Ok (Add w)) = Unit
Answer (Ok AlreadyIn) = Unit
Answer (Err err) = ⊥

module _ {t : Result Offer Refused} (a : Answer t) (x : Result Offer Refused) (r : Refusal) where
  -- is given where the test that would refuse is passed
  passed : (b : Bool) → cond b x (no r) ≡ t → (b ≡ true) × (x ≡ t)
  passed true e = (refl, e)
  passed false e = absurd (subst Answer (sym e) a)

  not_taken : (b : Bool) → cond b (no r) x ≡ t → (b ≡ false) × (x ≡ t)
  not_taken true e = absurd (subst Answer (sym e) a)
  not_taken false e = (refl, e)

module _ (allowance : ℕ) (records : List ℕ) (n believed : ℕ) (s : List ℕ) where
  abbrev h : Header
  h = header_in s

  -- such an offer is judged by the count, and no other is answered
  proper_counted : Proper allowance records n s → offer_of allowance records n believed s ≡ counted h records n believed s
  unfolding offer_of offered
  proper_counted p =
      ap (λ (c : Result ℕ NotAccepted). offer_by c records n believed s) p.accepted
      ∙ rw (eq-eqb _ _ p.version, ne_eqb n 0 (λ e. omega (arith, p.some)), le-ltb _ _ p.there)

  answer_proper : {t : Result Offer Refused} → Answer t → offer_of allowance records n believed s ≡ t → Proper allowance records n s × (counted h records n believed s ≡ t)
  unfolding offer_of offered
  answer_proper {t} a = go (checked_of allowance s) refl
    where
      go : (c : Result ℕ NotAccepted) → checked_of allowance s ≡ c → offer_by c records n believed s ≡ t → Proper allowance records n s × (counted h records n believed s ≡ t)
      go (Err err) p e = absurd (subst Answer (sym e) a)
      go (Ok found) p e =
          let version = passed a _ _ (eqb h.version.minor 2) e in
          let some = not_taken a _ _ (eqb n 0) version.1 in
          let there = not_taken a _ _ (ltb (length records) (n * record_length h)) some.1 in (
            record {
              found = found;
              accepted = p;
              version = eqb-true _ _ version.0;
              some = pos_of_ne-zero (eqb-false _ _ some.0);
              there = ltb-false _ _ there.0;
            },
            there.1,
          )

  -- they are to be added exactly when
  pub adds : (w : Sweep) → (offer_of allowance records n believed s ≡ Ok (Add w)) ↔ Adds allowance records n believed s w
  unfolding counted growing
  adds w = (
    λ e. let p = answer_proper tt e in go p.0 (eqb (count_in h) believed) refl p.1,
    λ d.
        let is : sweep_of h records n ≡ w = sym d.sweep in
        proper_counted d.proper ∙ rw (eq-eqb _ _ d.count, is, fit_counts w d.fit, le-leb _ _ d.room),
  )
    where
      go : Proper allowance records n s → (b : Bool) → eqb (count_in h) believed ≡ b → cond b (growing (sweep_of h records n) s) (cond (is_in h records n believed s) (Ok AlreadyIn) (no CountNeither)) ≡ Ok (Add w) → Adds allowance records n believed s w
      go p true q e =
          let fit = passed tt _ _ (counts_fit (sweep_of h records n)) e in
          let room = passed tt _ _ (leb ((sweep_of h records n).at + (sweep_of h records n).bytes) (length s)) fit.1 in
          let is : sweep_of h records n ≡ w = (let y = room.1 in cc) in
          record {
            proper = p;
            count = eqb-true _ _ q;
            sweep = sym is;
            fit = rw is at (counts-fit (sweep_of h records n) fit.0);
            room = rw is at (leb-true ((sweep_of h records n).at + (sweep_of h records n).bytes) (length s) room.0);
          }
      go p false q e =
          let y : (Ok AlreadyIn) ≡ Ok (Add w) = (passed tt (Ok AlreadyIn) _ (is_in h records n believed s) e).1 in
          let z : ◌≡◌ {A = ℕ} 0 1 = cc in
          absurd (omega arith)

  -- they are already in exactly when
  pub already-in : (offer_of allowance records n believed s ≡ (Ok AlreadyIn)) ↔ Stands allowance records n believed s
  unfolding counted growing is_in
  already-in = (
    λ e. let p = answer_proper tt e in go p.0 (eqb (count_in h) believed) refl p.1,
    λ d.
        let more = ne_eqb (count_in h) believed (λ e. omega (arith, d.proper.some, d.count)) in
        proper_counted d.proper ∙ rw (more, eq-eqb _ _ d.count, d.last, eq_list-refl),
  )
    where
      go : Proper allowance records n s → (b : Bool) → eqb (count_in h) believed ≡ b → cond b (growing (sweep_of h records n) s) (cond (is_in h records n believed s) (Ok AlreadyIn) (no CountNeither)) ≡ (Ok AlreadyIn) → Stands allowance records n believed s
      go p true q e =
          let fit = passed tt _ _ (counts_fit (sweep_of h records n)) e in
          let y : Ok (Add (sweep_of h records n)) ≡ (Ok AlreadyIn) = (passed tt _ _ (leb ((sweep_of h records n).at + (sweep_of h records n).bytes) (length s)) fit.1).1 in
          let z : ◌≡◌ {A = ℕ} 0 1 = cc in
          absurd (omega arith)
      go p false q e =
          let both = (and-eq-true_iff _ _).0 (passed tt (Ok AlreadyIn) _ (is_in h records n believed s) e).0 in
          record { proper = p; count = eqb-true _ _ both.0; last = eq_list-true _ _ both.1 }
