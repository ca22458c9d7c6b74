-- The directory of coordinate keys: document 02, No. 14, "The directory has four numbers in front, the last one the number of keys, and four
-- for each key: key, location, count, value or index."
use Rattle.refusal.specs.declared.Refusal.{Refusal}
use Rattle.std.specs.Prelude.{ℕ, zero, suc, ◌+◌, ◌*◌, ◌-◌, Bool, true, false, cond, ◌&&◌, ◌||◌, List, eqb, ltb, leb, length, Option, Some, None, Result, Ok, Err}
use Rattle.refusal.specs.declared.Refusal.TheVariants.{DirectoryShort, KeysNotRising, UnknownLocation, TargetAbsent, TargetBeyond}
use Rattle.le.specs.Le.{num}
use Rattle.directory.specs.declared.Entry.{Entry}
use Rattle.directory.specs.declared.Question.{Question}
use Rattle.directory.specs.declared.Question.TheVariants.{Rising, Known, There, Within}

-- the number of keys
abbrev pub count_of : List ℕ → ℕ
count_of d = num 2 6 d

-- the key of entry k, the first being 0, and the entry
abbrev pub key_of : List ℕ → ℕ → ℕ
key_of d k = num 2 (8 + 8 * k) d

unfoldable pub entry_of : List ℕ → ℕ → Entry
entry_of d k =
    record {
      key = num 2 (8 + 8 * k) d;
      location = num 2 (8 + 8 * k + 2) d;
      count = num 2 (8 + 8 * k + 4) d;
      index = num 2 (8 + 8 * k + 6) d;
    }

-- "keys not rising": each of some keys is above the one before it
abbrev pub rising_at : (ℕ → ℕ) → ℕ → Bool
rising_at key k = eqb k 0 || ltb (key (k - 1)) (key k)

-- "Location 0 holds the value itself; the others point into the two other records": 34736, the doubles, and 34737, the text
abbrev pub known : Entry → Bool
known e = eqb e.location 0 || (eqb e.location 34736 || eqb e.location 34737)

abbrev pub record_for : ℕ → Option ℕ → Option ℕ → Option ℕ
record_for location doubles text = cond (eqb location 34736) doubles text

abbrev pub present : Option ℕ → Bool
present (Some n) = true
present None = false

abbrev pub there : Option ℕ → Option ℕ → Entry → Bool
there doubles text e = eqb e.location 0 || present (record_for e.location doubles text)

-- "by index and count": of doubles, eight bytes each, or of bytes of text
abbrev pub bytes_of : ℕ → ℕ → ℕ
bytes_of location n = cond (eqb location 34736) (8 * n) n

abbrev pub holds : Option ℕ → ℕ → Bool
holds (Some n) end = leb end n
holds None end = false

abbrev pub within : Option ℕ → Option ℕ → Entry → Bool
within doubles text e = eqb e.location 0 || holds (record_for e.location doubles text) (bytes_of e.location (e.index + e.count))

-- what is asked of entry k
unfoldable pub passes : Question → Option ℕ → Option ℕ → List ℕ → ℕ → Bool
passes Rising doubles text d k = rising_at (key_of d) k
passes Known doubles text d k = known (entry_of d k)
passes There doubles text d k = there doubles text (entry_of d k)
passes Within doubles text d k = within doubles text (entry_of d k)

-- and of each of n entries
unfoldable pub every : (ℕ → Bool) → ℕ → Bool
every f zero = true
every f (suc n) = every f n && f n

-- "directory short; keys not rising; unknown location; target record absent; target beyond its end", "each over the whole directory"
unfoldable pub judged_of : List ℕ → Option ℕ → Option ℕ → Result ℕ Refusal
judged_of d doubles text =
    let all : Question → Bool = λ q. every (passes q doubles text d) (count_of d) in
    cond (ltb (length d) (8 + 8 * count_of d)) (Err DirectoryShort)
    (cond (all Rising)
    (cond (all Known)
    (cond (all There) (cond (all Within) (Ok (count_of d)) (Err TargetBeyond)) (Err TargetAbsent))
    (Err UnknownLocation))
    (Err KeysNotRising))

-- the first of n places, from k on, where a rule gives x; the place after them where it gives x nowhere
unfoldable pub place_from : (ℕ → ℕ) → ℕ → ℕ → ℕ → ℕ
place_from f x k zero = k
place_from f x k (suc n) = cond (eqb (f k) x) k (place_from f x (suc k) n)

unfoldable pub place_of : (ℕ → ℕ) → ℕ → ℕ → ℕ
place_of f x n = place_from f x 0 n
