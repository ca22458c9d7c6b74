-- What a directory that is written is worth: document 02, No. 14, "write a directory from keys in rising order". `written_of` (`Written.antt`)
-- is what a call answers, and the destination that it leaves of d; `ks` are the numbers that were given, four for each key.
use Rattle.std.specs.Prelude.{ℕ, ◌+◌, ◌*◌, ◌^◌, ◌≤◌, ◌<◌, ◌≡◌, true, List, ◌++◌, ◌↔◌, length, drop, Result, Ok, Err}
use Rattle.std.proofs.Common.{ap, sym, ◌∙◌, arith}
use Rattle.refusal.specs.declared.Refusal.{Refusal}
use Rattle.directory.specs.Directory.{count_of, key_of, entry_of, rising_at, place_of}
use Rattle.directory_write.specs.Written.{given_count, given_key, directory_bytes, written_of}
use Rattle.directory_write.specs.Exact.{RefusedFor, WrittenFor, given_entry}
use Rattle.directory_write.specs.Back as back
use Rattle.directory_write.specs.Back.{Words}

module _ (ks d : List ℕ) where
  abbrev answer : Result ℕ Refusal
  answer = (written_of ks d).0

  abbrev after : List ℕ
  after = (written_of ks d).1

  -- "Writing refuses keys not rising, over 8,190 keys, then no room": with each exactly when it is the first to hold in that order,
  pub refused_exactly : (why : Refusal) → (answer ≡ Err why) ↔ RefusedFor ks (length d) why
  refused_exactly why = (back.was-refused ks d, λ r. ap (λ (w : Result ℕ Refusal × List ℕ). w.0) (back.then_refused ks d r))

  -- and written exactly when none does, eight bytes in front and eight for each key.
  pub written_exactly : (n : ℕ) → (answer ≡ Ok n) ↔ (WrittenFor ks (length d) × (n ≡ 8 + 8 * given_count ks))
  written_exactly n = (back.was-written ks d, λ (w, same). ap (λ (p : Result ℕ Refusal × List ℕ). p.0) (back.then_put ks d w) ∙ ap Ok (sym same))

  -- A refusal leaves the destination as it was,
  pub untouched : {why : Refusal} → answer ≡ Err why → after ≡ d
  untouched e = ap (λ (w : Result ℕ Refusal × List ℕ). w.1) (back.then_refused ks d (back.was-refused ks d e))

  -- and a write what lies past the directory.
  pub rest_kept : {n : ℕ} → answer ≡ Ok n → after ≡ directory_bytes ks ++ drop n d
  rest_kept e =
      let (w, same) = back.was-written ks d e in
      ap (λ (p : Result ℕ Refusal × List ℕ). p.1) (back.then_put ks d w) ∙ ap (λ (m : ℕ). directory_bytes ks ++ drop m d) (sym same)

  -- What is written reads back, each key with the four numbers that were given for it: a directory that is not short and whose keys rise,
  -- with each key at its own place. Numbers have 16 bits, as their type has it.
  module _ {n : ℕ} (written : answer ≡ Ok n) (small : Words ks) where
    few : given_count ks ≤ 8190
    few = (back.was-written ks d written).0.1

    pub count_back : count_of after ≡ given_count ks
    count_back = rw (rest_kept written) (back.count_back ks (drop n d) small few)

    pub long_enough : 8 + 8 * count_of after ≤ length after
    long_enough = rw (rest_kept written) (back.long_back ks (drop n d) small few)

    pub entry_back : (k : ℕ) → k < given_count ks → entry_of after k ≡ given_entry ks k
    entry_back k h = rw (rest_kept written) (back.entry_back ks (drop n d) small few k h)

    pub rising_back : (k : ℕ) → k < given_count ks → rising_at (key_of after) k ≡ true
    rising_back k h = rw (rest_kept written) (back.rising_back ks (drop n d) small few (back.was-written ks d written).0.0 k h)

    pub place_back : (k : ℕ) → k < given_count ks → place_of (key_of after) (given_key ks k) (count_of after) ≡ k
    place_back k h = rw (rest_kept written) (back.place_back ks (drop n d) small few (back.was-written ks d written).0.0 k h)

-- The limit: 8,190 keys are the most whose bytes a VLR's length of 16 bits can state, and one more is too many.
pub limit : (8 + 8 * 8190 < 2 ^ 16) × (2 ^ 16 ≤ 8 + 8 * 8191)
limit = (omega arith, omega arith)
