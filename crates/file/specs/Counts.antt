-- The records found whole: never more than the allowance, and each of at least 54 bytes of the file.
use Rattle.std.specs.Prelude.{Result, Ok, Err}
use Rattle.header.specs.declared.Whole.{Whole}
use Rattle.refusal.specs.declared.Refusal.{Refusal}
use Rattle.rules.specs.declared.NotAccepted.{NotAccepted}
use Prim.Native.Nat.{ℕ, zero, suc, ◌+◌, ◌*◌, ◌-◌, ◌≤◌}
use Rattle.std.specs.Prelude.{◌≡◌, Bool, cond, T, eqb, length, drop}
use Rattle.std.proofs.Math.Path.{refl}
use Rattle.std.proofs.Common.{sym, subst, length-take-le}
use Rattle.std.proofs.Math.Bool.{true, false}
use mathlib.Core.List.{List, [], ◌∷◌, ◌++◌}
use native.Mathlib.Omega.{arith}
use borrow.Author.Tests.{ltb-true, leb-true}
use Rattle.std.proofs.Math.ListN.{length-drop}
use Rattle.vlr.specs.Vlr.{record_size}
use Rattle.vlr.specs.Laws.{record_least}
use Rattle.header.specs.Judged.{judged, header_in}
use Rattle.outline.specs.declared.Outline.{Outline}
use Rattle.outline.specs.Outline.{outline_of}
use Rattle.rules.specs.Rules.{Rule, refused_by, first, header_rules, record_rules}
use Rattle.extents.specs.Extents.{points_end, vlr_bytes, vlr_rules, point_rule, later_rules, part_rules, outline_rules, records_of}
use Rattle.file.specs.Rules.{readable, standard_size, rules_of, checked_of}
use Rattle.rules.specs.First.{All}
use Rattle.rules.specs.Records.{Run, records_hold}
use Rattle.file.specs.Holds.{PartsHold, some, rules_hold}

-- the number of records found whole that an answer carries
abbrev pub found_of : Result ℕ NotAccepted → ℕ
found_of (Ok n) = n
found_of (Err err) = err.records

pub run-bytes : (x : Bool) (k : ℕ) (rest : List ℕ) → Run x k rest → 54 * k ≤ length rest
run-bytes x zero rest run = omega arith
run-bytes x (suc k) rest (whole, run) =
    omega (arith, record_least x rest, run-bytes x k (drop (record_size x rest) rest) run, length-drop (record_size x rest) rest)

module _ (a most : ℕ) where
  -- a count that the allowance and the bytes allow
  abbrev pub Fits : ℕ → Type 0
  Fits n = (n ≤ a) × (54 * n ≤ most)

  -- the count of each rule fits, where all before it hold
  abbrev Sound : List Rule → Type 0
  Sound [] = Unit
  Sound (r ∷ rs) = Fits r.found × (r.holds ≡ true → Sound rs)

  sound_append : (xs ys : List Rule) → Sound xs → (All xs → Sound ys) → Sound (xs ++ ys)
  sound_append [] ys p q = q tt
  sound_append (x ∷ xs) ys (f, p) q = (f, λ h. sound_append xs ys (p h) (λ all. q (h, all)))

  -- so the count of the first that fails does, or of what is answered where none fails
  first_fits : (rs : List Rule) (done : Result ℕ NotAccepted) → Sound rs → (All rs → Fits (found_of done)) → Fits (found_of (first rs done))
  unfolding first
  first_fits [] done sound end = end tt
  first_fits (r ∷ rs) done (fits, sound) end = go r.holds refl (λ h. first_fits rs done (sound h) (λ all. end (h, all)))
    where
      go : (b : Bool) → r.holds ≡ b → (r.holds ≡ true → Fits (found_of (first rs done))) → Fits (found_of (cond b (first rs done) (refused_by r)))
      go true p later = later p
      go false p later = fits

  -- records one after the other, each of at least 54 bytes
  sound_records : (x : Bool) (n k : ℕ) (rest : List ℕ) → n ≤ a → 54 * n + length rest ≤ most → Sound (record_rules x a n k rest)
  unfolding record_rules
  sound_records x n zero rest h bytes = tt
  sound_records x n (suc k) rest h bytes =
      let fits : Fits n = (h, omega arith) in (
        fits,
        λ allowed. (
          fits,
          λ head. (
            fits,
            λ whole.
                sound_records x (suc n) k (drop (record_size x rest) rest) (ltb-true n a allowed)
                (rw length-drop (omega (arith, leb-true (record_size x rest) (length rest) whole, record_least x rest))),
          ),
        ),
      )

module _ (n minor a : ℕ) (o : Outline) (s : List ℕ) where
  -- the VLRs lie before the points
  pub vlr_bytes_lem : o.header_size ≤ o.offset_to_point_data → o.offset_to_point_data ≤ length s → length (vlr_bytes o s) ≡ o.offset_to_point_data - o.header_size
  vlr_bytes_lem after inside = length-take-le (o.offset_to_point_data - o.header_size) (drop o.header_size s) (rw length-drop (omega arith))

  -- and the later records after them
  sound_later : o.number_of_variable_length_records ≤ a → 54 * o.number_of_variable_length_records ≤ o.offset_to_point_data → o.offset_to_point_data ≤ length s → Sound a (length s) (later_rules a o s)
  unfolding later_rules
  sound_later allowed before within = go (eqb o.number_of_later_records 0)
    where
      fits : Fits a (length s) o.number_of_variable_length_records
      fits = (allowed, omega arith)

      go : (b : Bool) → Sound a (length s) (cond b [] (some n minor a o s))
      go true = tt
      go false = (
        fits,
        λ after. (
          fits,
          λ inside.
              let from : o.offset_to_point_data ≤ o.start_of_later_records = omega (arith, leb-true (points_end o) o.start_of_later_records after) in
              let to : o.start_of_later_records ≤ length s = leb-true _ _ inside in
              sound_records a (length s) true o.number_of_variable_length_records o.number_of_later_records (drop o.start_of_later_records s) allowed
              (rw length-drop (omega arith)),
        ),
      )

  sound : Sound a (length s) (outline_rules n minor a o s)
  unfolding outline_rules header_rules part_rules vlr_rules point_rule
  sound =
      let none : Fits a (length s) 0 = (omega arith, omega arith) in (
        none,
        λ _. (
          none,
          λ _. (
            none,
            λ _. (
              none,
              λ _. (
                none,
                λ _. (
                  none,
                  λ after. (
                    none,
                    λ inside.
                        let from = leb-true _ _ after in
                        let to = leb-true _ _ inside in
                        let bytes = vlr_bytes_lem from to in
                        sound_append a (length s) (vlr_rules a o s) _
                        (sound_records a (length s) false 0 o.number_of_variable_length_records (vlr_bytes o s) (omega arith) (omega arith))
                        (λ all.
                        let held = records_hold false a 0 o.number_of_variable_length_records (vlr_bytes o s) (omega arith) all in
                        let most = run-bytes false o.number_of_variable_length_records (vlr_bytes o s) held.1 in
                        ((omega (arith, held.0), omega arith), λ _. sound_later (omega (arith, held.0)) (omega arith) to)),
                  ),
                ),
              ),
            ),
          ),
        ),
      )

  -- all of them, where all rules hold
  pub all-fit : PartsHold n minor a o s → Fits a (length s) (records_of o)
  unfolding records_of
  all-fit h = (h.allowed, go o.number_of_later_records refl)
    where
      vlrs : 54 * o.number_of_variable_length_records ≤ o.offset_to_point_data
      vlrs = omega (arith, run-bytes false o.number_of_variable_length_records (vlr_bytes o s) h.vlrs_whole, vlr_bytes_lem h.offset_after_header h.offset_within)

      go : (k : ℕ) → o.number_of_later_records ≡ k → 54 * (o.number_of_variable_length_records + o.number_of_later_records) ≤ length s
      go zero p = omega (arith, vlrs, h.offset_within)
      go (suc k) p =
          let from = h.later_start_lem (omega arith) in
          let later = run-bytes true o.number_of_later_records (drop o.start_of_later_records s) h.later_whole in
          omega (arith, vlrs, from.0, from.1, later, length-drop o.start_of_later_records s)

-- "this is at most the allowance, and 54 times it is at most the file length"
pub count_fits : (a : ℕ) (s : List ℕ) → Fits a (length s) (found_of (checked_of a s))
unfolding checked_of rules_of readable
count_fits a s = first_fits a (length s) (rules_of a s) _ (go (judged s)) (λ all. all-fit _ _ a _ s (rules_hold a s all).parts)
  where
    go : (j : Result Whole Refusal) → Sound a (length s) (readable j ++ outline_rules (standard_size j) (header_in s).version.minor a (outline_of (header_in s)) s)
    go (Ok whole) = sound _ _ a _ s
    go (Err r) = ((omega arith, omega arith), λ never. absurd (subst T (sym never) tt))
