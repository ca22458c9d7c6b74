-- Which rule is broken where, for whoever has the file and the standard beside it: document 02, No. 12, rule by rule.
use Rattle.std.specs.Prelude.{ℕ, suc, ◌+◌, ◌*◌, ◌-◌, ◌≤◌, ◌<◌, ◌≡◌, ◌⊎◌, List, [], ◌∷◌, leb, take, drop}
use Rattle.le.specs.Le.{num}
use Rattle.header.specs.Layout.{VersionMinor}
use Rattle.header.specs.Header.{number}
use Rattle.cursor.specs.declared.Kind.{Kind}
use Rattle.cursor.specs.declared.Kind.TheVariants.{Header, Vlr, Gap, Points, Evlr, Waveform}
use Rattle.cursor.specs.declared.Part.{Part}
use Rattle.cursor.specs.Parts.{outline_in, parts_of}
use Rattle.text_rest.specs.Theorems.{Untidy}
use Rattle.returns.specs.declared.Mark.{Mark}
use Rattle.returns.specs.Returns.{mark_of, have_of}
use Rattle.finding.specs.declared.Finding.{Finding}
use Rattle.finding.specs.Rules.{finding}

-- a finding is one of a list
abbrev pub Among : Finding → List Finding → Type 0
Among f [] = ⊥
Among f (g ∷ gs) = (f ≡ g) ⊎ Among f gs

-- "in file order", "findings at the same place follow the order of this list"
abbrev pub Before : Finding → Finding → Type 0
Before f g = (f.at < g.at) ⊎ ((f.at ≡ g.at) × (f.rule < g.rule))

abbrev pub BeforeAll : Finding → List Finding → Type 0
BeforeAll f [] = Unit
BeforeAll f (g ∷ gs) = Before f g × BeforeAll f gs

abbrev pub InOrder : List Finding → Type 0
InOrder [] = Unit
InOrder (f ∷ fs) = BeforeAll f fs × InOrder fs

-- the part p is entry number k of a table whose first entry has number j
abbrev pub Entry : ℕ → List Part → ℕ → Part → Type 0
Entry j [] k p = ⊥
Entry j (q ∷ ps) k p = ((k ≡ j) × (p ≡ q)) ⊎ Entry (suc j) ps k p

-- a part of this kind has a text field at this byte of it, of so many bytes: system identifier and generating software; user id and description
abbrev pub TextField : Kind → ℕ → ℕ → Type 0
TextField Header at w = ((at ≡ 26) × (w ≡ 32)) ⊎ ((at ≡ 58) × (w ≡ 32))
TextField Vlr at w = ((at ≡ 2) × (w ≡ 16)) ⊎ ((at ≡ 22) × (w ≡ 32))
TextField Gap at w = ⊥
TextField Points at w = ⊥
TextField Evlr at w = ((at ≡ 2) × (w ≡ 16)) ⊎ ((at ≡ 28) × (w ≡ 32))
TextField Waveform at w = ((at ≡ 2) × (w ≡ 16)) ⊎ ((at ≡ 28) × (w ≡ 32))

-- the first byte of point number p, counted from 1, and its return number and number of returns, by the format's code
abbrev pub point_place : List ℕ → ℕ → ℕ
point_place s p = let o = outline_in s in o.offset_to_point_data + (p - 1) * o.point_data_record_length

abbrev pub mark_at : List ℕ → ℕ → Mark
mark_at s p = let o = outline_in s in mark_of (leb 6 o.point_data_record_format) (take o.point_data_record_length (drop (point_place s p) s))

-- how many of the file's records have return number r
abbrev pub have_return : List ℕ → ℕ → ℕ
have_return s r = let o = outline_in s in have_of (leb 6 o.point_data_record_format) o.point_data_record_length r o.number_of_point_records (drop o.offset_to_point_data s)

-- The finding f says what is so of the file s.
pub data Broken (s : List ℕ) (f : Finding) : Type 0 where
  -- 1: "nonzero legacy counts in formats 6 to 10"
  legacy : (i : ℕ) → i ≤ 5 → 6 ≤ (outline_in s).point_data_record_format → (num 4 (107 + 4 * i) s ≡ 0 → ⊥) → f ≡ finding 1 1 0 (107 + 4 * i) → Broken s f
  -- 2: "legacy count not zero and unlike the large one", which version 1.4 has
  unlike-large : number VersionMinor s ≡ 4 → (num 4 107 s ≡ 0 → ⊥) → (num 4 107 s ≡ num 8 247 s → ⊥) → f ≡ finding 2 1 0 107 → Broken s f
  -- 3: "counts by return unlike the records": "In 1.4 the 15 large counters are compared;
  large : (r : ℕ) → 1 ≤ r → r ≤ 15 → number VersionMinor s ≡ 4 → (num 8 (247 + 8 * r) s ≡ have_return s r → ⊥) → f ≡ finding 3 1 0 (247 + 8 * r) → Broken s f
  -- in 1.0 to 1.3 the five counters speak only of returns 1 to 5."
  five : (r : ℕ) → 1 ≤ r → r ≤ 5 → (number VersionMinor s ≡ 4 → ⊥) → (num 4 (107 + 4 * r) s ≡ have_return s r → ⊥) → f ≡ finding 3 1 0 (107 + 4 * r) → Broken s f
  -- 4: "a return number of zero or above the number of returns"
  return-number : (k p : ℕ) (q : Part) → Entry 1 (parts_of (outline_in s) s) k q → q.kind ≡ Points → 1 ≤ p → p ≤ (outline_in s).number_of_point_records
      → ((mark_at s p).number ≡ 0) ⊎ ((mark_at s p).«of» < (mark_at s p).number) → f ≡ finding 4 k p (point_place s p) → Broken s f
  -- 5: "text fields with bytes after their first zero that aren't zero"
  text : (k at w : ℕ) (q : Part) → Entry 1 (parts_of (outline_in s) s) k q → TextField q.kind at w → Untidy (take w (drop (q.start + at) s))
      → f ≡ finding 5 k 0 (q.start + at) → Broken s f
