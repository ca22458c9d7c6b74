-- The rules that speak of a header's counters and of texts: document 02, No. 12, "list in file order: nonzero legacy counts in formats 6 to 10 [1]; legacy count not
-- zero and unlike the large one [2]; counts by return unlike the records [3]; a return number of zero or above the number of returns [4]; text
-- fields with bytes after their first zero that aren't zero [5]", "findings at the same place follow the order of this list".
use Rattle.std.specs.Prelude.{ℕ, zero, suc, ◌+◌, ◌*◌, Bool, true, cond, not, ◌&&◌, List, [], ◌∷◌, ◌++◌, eqb, take, drop, get_or}
use Rattle.le.specs.Le.{num}
use Rattle.text_rest.specs.Rest.{rest_of}
use Rattle.finding.specs.declared.Finding.{Finding}

-- "with its rule, part (from 1), point (or 0) and first byte"
abbrev pub finding : ℕ → ℕ → ℕ → ℕ → Finding
finding rule part point at = record { rule = rule; part = part; point = point; at = at }

abbrev pub spot : ℕ → ℕ → ℕ → Finding
spot rule part at = finding rule part 0 at

-- one where a rule is broken, else none
unfoldable pub when : Bool → Finding → List Finding
when broken f = cond broken (f ∷ []) []

-- what a rule gives at k places, the first being place i
unfoldable pub through : (ℕ → List Finding) → ℕ → ℕ → List Finding
through f i zero = []
through f i (suc k) = f i ++ through f (suc i) k

-- two numbers that are compared, and differ
abbrev pub unlike : Bool → ℕ → ℕ → Bool
unlike compared stated there = compared && not (eqb stated there)

module _ (s : List ℕ) where
  -- Rule 5: a text field of so many bytes.
  unfoldable pub text_at : ℕ → ℕ → ℕ → List Finding
  text_at part at width = when (rest_of (take width (drop at s))) (spot 5 part at)

  -- Rules 1 and 2 at 107, the legacy count; the large one is at 247.
  unfoldable pub legacy_first : Bool → Bool → ℕ → List Finding
  legacy_first extended large part =
      let stated = num 4 107 s in
      when (unlike extended stated 0) (spot 1 part 107) ++ when (unlike (unlike large stated 0) stated (num 8 247 s)) (spot 2 part 107)

  module _ (extended large : Bool) (numbers : List ℕ) (part : ℕ) where
    -- Rules 1 and 3 at 111 and so on, the legacy counts of returns 1 to 5.
    unfoldable pub legacy_at : ℕ → List Finding
    legacy_at i =
        let at = 107 + 4 * i in
        let stated = num 4 at s in
        when (unlike extended stated 0) (spot 1 part at) ++ when (unlike (not large) stated (get_or numbers i 0)) (spot 3 part at)

    unfoldable pub legacies : List Finding
    legacies = through legacy_at 1 5

  module _ (numbers : List ℕ) (part : ℕ) where
    -- Rule 3 at 255 and so on, the large counts of returns 1 to 15.
    unfoldable pub large_at : ℕ → List Finding
    large_at i = let at = 247 + 8 * i in when (unlike true (num 8 at s) (get_or numbers i 0)) (spot 3 part at)

    unfoldable pub larges : List Finding
    larges = through large_at 1 15

  -- whether the version is 1.4
  unfoldable pub is_large : Bool
  is_large = eqb (num 1 25 s) 4

  -- "In 1.4 the 15 large counters are compared; in 1.0 to 1.3 the five counters speak only of returns 1 to 5."
  unfoldable pub counters : Bool → List ℕ → ℕ → List Finding
  counters extended numbers part =
      legacy_first extended is_large part
      ++ (legacies extended is_large numbers part
      ++ cond is_large (larges numbers part) [])
