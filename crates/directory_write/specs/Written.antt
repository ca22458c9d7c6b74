-- A directory that is written: document 02, No. 14, "write a directory from keys in rising order", "Writing refuses keys not rising, over
-- 8,190 keys, then no room."
use Rattle.refusal.specs.declared.Refusal.{Refusal}
use Rattle.std.specs.Prelude.{ℕ, ◌*◌, ◌/◌, cond, List, [], ◌∷◌, ◌++◌, ltb, length, take, get_or, Result, Err}
use Rattle.refusal.specs.declared.Refusal.TheVariants.{KeysNotRising, TooManyKeys}
use Rattle.le.specs.Le.{bytes}
use Rattle.lent.specs.Front.{front_of}
use Rattle.directory.specs.Directory.{rising_at, every}

-- how many keys some numbers are, four for each, and the first of the four of key k, the first key being 0
abbrev pub given_count : List ℕ → ℕ
given_count ks = length ks / 4

unfoldable pub given_key : List ℕ → ℕ → ℕ
given_key ks k = get_or ks (4 * k) 0

-- numbers of two bytes, one after the other
unfoldable pub number_bytes : List ℕ → List ℕ
number_bytes [] = []
number_bytes (x ∷ xs) = bytes 2 x ++ number_bytes xs

-- "four numbers in front, the last one the number of keys, and four for each key": the others in front are 1, 1 and 0
abbrev pub in_front : List ℕ → List ℕ
in_front ks = 1 ∷ 1 ∷ 0 ∷ given_count ks ∷ []

unfoldable pub directory_bytes : List ℕ → List ℕ
directory_bytes ks = number_bytes (in_front ks ++ take (4 * given_count ks) ks)

-- what a write answers, and leaves of d
unfoldable pub written_of : List ℕ → List ℕ → Result ℕ Refusal × List ℕ
written_of ks d =
    cond (every (rising_at (given_key ks)) (given_count ks))
    (cond (ltb 8190 (given_count ks)) (Err TooManyKeys, d) (front_of (directory_bytes ks) d))
    (Err KeysNotRising, d)
