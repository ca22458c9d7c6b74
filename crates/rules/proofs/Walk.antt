-- A turn of the walk over records: what the rules of the next record say, by what was measured.
use Rattle.std.specs.Prelude.{Result, Ok, Err}
use Rattle.rules.specs.NotAccepted.{not_accepted}
use Rattle.rules.specs.declared.NotAccepted.{NotAccepted}
use Prim.Native.Nat.{ℕ, zero, suc, ◌+◌, ◌-◌, ◌≤◌, ◌<◌}
use mathlib.Core.Path.{◌≡◌, refl, sym, ap, ◌∙◌}
use mathlib.Core.Bool.{Bool, true, false, cond}
use mathlib.Core.List.{List}
use native.Mathlib.Omega.{arith}
use native.Mathlib.Numerals.{add-one}
use borrow.Author.Tests.{lt-ltb, le-ltb, leb-true}
use lib.Dec.{leb}
use lib.ListN.{length, take, drop, length-drop}
use lib.Seq.{take_all, drop-drop}
use Rattle.refusal.specs.declared.Refusal.{Refusal}
use Rattle.refusal.specs.declared.Refusal.TheVariants.{Allowance}
use Rattle.vlr.specs.declared.RecordLength.{RecordLength}
use Rattle.vlr.specs.declared.RecordLength.TheVariants as kind
use Rattle.vlr.specs.Layout.{head_size}
use Rattle.vlr.specs.Vlr.{length_of, record_size}
use Rattle.rules.specs.Rules.{record_number, first, too_far, no_length, record_rules}
use Rattle.rules.specs.Steps.{measured_of}

-- 11 and 13 name the next record
numbered : (r : RecordLength) (n : ℕ) → record_number (too_far r) n ≡ n + 1
unfolding record_number
numbered (kind.Vlr l) n = sym (add-one n)
numbered (kind.Evlr l) n = sym (add-one n)

module _ (x : Bool) (a n : ℕ) (rest : List ℕ) (done : Result ℕ NotAccepted) where
  pub none_left : (k : ℕ) → 0 < k → a ≤ n → first (record_rules x a n k rest) done ≡ Err (not_accepted (Allowance a) (n + 1) n)
  unfolding first record_rules record_number
  none_left zero h l = absurd (omega arith)
  none_left (suc k) h l = rw (le-ltb n a l, add-one)

  -- what follows by what was measured, k more records being still to come
  abbrev pub after : ℕ → Result ℕ Refusal → Result ℕ NotAccepted
  after k (Ok b) = first (record_rules x a (n + 1) k (drop b rest)) done
  after k (Err r) = Err (not_accepted r (n + 1) n)

  pub turn : (k : ℕ) → 0 < k → n < a → first (record_rules x a n k rest) done ≡ after (k - 1) (measured_of x rest)
  unfolding first record_rules measured_of
  turn zero h l = absurd (omega arith)
  turn (suc k) h l = let less : suc k - 1 ≡ k = omega arith in rw (lt-ltb n a l, less) (go (leb (head_size x) (length rest)) (leb (record_size x rest) (length rest)))
    where
      go : (b c : Bool) → cond b (cond c (first (record_rules x a (suc n) k (drop (record_size x rest) rest)) done) (Err (not_accepted (too_far (length_of x rest)) (record_number (too_far (length_of x rest)) n) n))) (Err (not_accepted (too_far (no_length x)) (record_number (too_far (no_length x)) n) n))
          ≡ after k (cond b (cond c (Ok (record_size x rest)) (Err (too_far (length_of x rest)))) (Err (too_far (no_length x))))
      go true true = rw add-one
      go true false = rw (numbered (length_of x rest) n)
      go false c = rw (numbered (no_length x) n)

-- what was measured lies in the bytes
pub measured_within : (x : Bool) (rest : List ℕ) {b : ℕ} → measured_of x rest ≡ Ok b → b ≤ length rest
unfolding measured_of
measured_within x rest {b} p = go (leb (head_size x) (length rest)) (leb (record_size x rest) (length rest)) refl p
  where
    go : (h c : Bool) → leb (record_size x rest) (length rest) ≡ c → cond h (cond c (Ok (record_size x rest)) (Err (too_far (length_of x rest)))) (Err (too_far (no_length x))) ≡ Ok b → b ≤ length rest
    go true true q e = let same : record_size x rest ≡ b = cc in omega (arith, leb-true (record_size x rest) (length rest) q)
    go true false q e = let z : ◌≡◌ {A = ℕ} 0 1 = cc in absurd (omega arith)
    go false c q e = let z : ◌≡◌ {A = ℕ} 0 1 = cc in absurd (omega arith)

-- the same at a place of s, whose rest was lent
pub lent-rest : (s : List ℕ) (at : ℕ) → at ≤ length s → take (length s - at) (drop at s) ≡ drop at s
lent-rest s at h = take_all (length s - at) (drop at s) (simp length-drop (omega arith))

module _ (x : Bool) (a n : ℕ) (s : List ℕ) (at : ℕ) (done : Result ℕ NotAccepted) (h : at ≤ length s) where
  pub refused-at : (k : ℕ) {r : Refusal} → 0 < k → n < a → measured_of x (take (length s - at) (drop at s)) ≡ Err r → first (record_rules x a n k (drop at s)) done ≡ Err (not_accepted r (n + 1) n)
  refused-at k more l p =
      turn x a n (drop at s) done k more l ∙ ap (after x a n (drop at s) done (k - 1)) (ap (measured_of x) (sym (lent-rest s at h)) ∙ p)

  pub whole-at : (k b : ℕ) → 0 < k → n < a → measured_of x (take (length s - at) (drop at s)) ≡ Ok b → (at + b ≤ length s) × (first (record_rules x a n k (drop at s)) done ≡ first (record_rules x a (n + 1) (k - 1) (drop (at + b) s)) done)
  whole-at k b more l p =
      let q : measured_of x (drop at s) ≡ Ok b = ap (measured_of x) (sym (lent-rest s at h)) ∙ p in (
        omega (arith, measured_within x (drop at s) q, length-drop at s),
        turn x a n (drop at s) done k more l ∙ ap (after x a n (drop at s) done (k - 1)) q ∙ rw drop-drop,
      )
