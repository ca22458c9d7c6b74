-- Laws of numbers of two bytes, one after the other.
use Rattle.std.specs.Prelude.{ℕ, suc, ◌+◌, ◌*◌, ◌≤◌, ◌<◌, ◌≡◌, refl, Bool, true, false, drop, get_or, Ok, Err}
use Rattle.std.proofs.Math.Path.{ap, sym}
use Rattle.std.proofs.Common.{◌∙◌, add-one, arith, length-append, drop-cons, length-take-le}
use mathlib.Core.List.{List, [], ◌∷◌, ◌++◌}
use borrow.Author.Tests.{lt-ltb, le-ltb}
use Rattle.std.proofs.Math.ListN.{length, take}
use Rattle.std.proofs.Math.Seq.{sets}
use Rattle.le.specs.Le.{bytes}
use Rattle.le.specs.Laws.{length-bytes}
use Rattle.refusal.specs.declared.Refusal.TheVariants.{NoRoom, KeysNotRising, TooManyKeys}
use Rattle.lent.specs.Front.{front_of}
use Rattle.lent.specs.Laws.{sets_append, whole, front, no_front}
use Rattle.directory.specs.Directory.{rising_at, every}
use Rattle.directory_write.specs.Written.{given_count, in_front, given_key, number_bytes, directory_bytes, written_of}

pub length-numbers : (xs : List ℕ) → length (number_bytes xs) ≡ 2 * length xs
unfolding number_bytes
length-numbers [] = refl
length-numbers (x ∷ xs) = simp length-append (omega (arith, length-numbers xs, length-bytes 2 x))

-- eight bytes in front and eight for each key
pub length_directory : (ks : List ℕ) → length (directory_bytes ks) ≡ 8 + 8 * given_count ks
unfolding directory_bytes
length_directory ks =
    let n = given_count ks in
    length-numbers (in_front ks ++ take (4 * n) ks) ∙ omega (arith, length-take-le (4 * n) ks (omega arith))

-- one number stored, and then the others
pub next-number : (d xs : List ℕ) (to i : ℕ) → i < length xs → sets d to (number_bytes (drop i xs)) ≡ sets (sets d to (bytes 2 (get_or xs i 0))) (to + 2) (number_bytes (drop (i + 1) xs))
unfolding number_bytes
next-number d xs to i h = rw (add-one, drop-cons xs i 0) (sets_append d (bytes 2 (get_or xs i 0)) (number_bytes (drop (suc i) xs)) to)

-- numbers stored, and others behind them
pub numbers-append : (xs ys : List ℕ) → number_bytes (xs ++ ys) ≡ number_bytes xs ++ number_bytes ys
unfolding number_bytes
numbers-append [] ys = refl
numbers-append (x ∷ xs) ys = rw (numbers-append xs ys)

module _ (ks d : List ℕ) where
  -- the front stored, and then the keys, leave the directory at the front
  pub stored : {e f : List ℕ} → e ≡ sets d 0 (number_bytes (in_front ks)) → f ≡ sets e 8 (number_bytes (take (4 * given_count ks) ks)) → 8 + 8 * given_count ks ≤ length d → f ≡ directory_bytes ks ++ drop (8 + 8 * given_count ks) d
  unfolding directory_bytes
  stored {e} {f} first then h =
      let front = in_front ks in
      let rest = take (4 * given_count ks) ks in
      let eight : 0 + length (number_bytes front) ≡ 8 = omega (arith, length-numbers front) in
      let both : sets d 0 (number_bytes front ++ number_bytes rest) ≡ sets (sets d 0 (number_bytes front)) 8 (number_bytes rest) = sets_append d (number_bytes front) (number_bytes rest) 0 ∙ ap (λ (k : ℕ). sets (sets d 0 (number_bytes front)) k (number_bytes rest)) eight in
      then ∙ ap (λ (x : List ℕ). sets x 8 (number_bytes rest)) first ∙ sym both
      ∙ ap (sets d 0) (sym (numbers-append front rest))
      ∙ whole d (number_bytes (front ++ rest)) (8 + 8 * given_count ks) (length_directory ks) h

  -- the refusals in their order, and where there is none
  abbrev pub all_rise : Bool
  all_rise = every (rising_at (given_key ks)) (given_count ks)

  pub then_falling : all_rise ≡ false → written_of ks d ≡ (Err KeysNotRising, d)
  unfolding written_of
  then_falling e = rw e

  module _ (rising : all_rise ≡ true) where
    pub then_many : 8190 < given_count ks → written_of ks d ≡ (Err TooManyKeys, d)
    unfolding written_of
    then_many h = rw (rising, lt-ltb _ _ h)

    module _ (few : given_count ks ≤ 8190) where
      then_front : written_of ks d ≡ front_of (directory_bytes ks) d
      unfolding written_of
      then_front = rw (rising, le-ltb _ _ few)

      pub then_short : length d < 8 + 8 * given_count ks → written_of ks d ≡ (Err (NoRoom (8 + 8 * given_count ks)), d)
      then_short h =
          then_front ∙ no_front (directory_bytes ks) d (omega (arith, length_directory ks)) ∙ ap (λ (n : ℕ). (Err (NoRoom n), d)) (length_directory ks)

      pub then_written : 8 + 8 * given_count ks ≤ length d → written_of ks d ≡ (Ok (8 + 8 * given_count ks), directory_bytes ks ++ drop (8 + 8 * given_count ks) d)
      then_written h =
          then_front ∙ front (directory_bytes ks) d (omega (arith, length_directory ks))
          ∙ ap (λ (n : ℕ). (Ok n, directory_bytes ks ++ drop n d)) (length_directory ks)
