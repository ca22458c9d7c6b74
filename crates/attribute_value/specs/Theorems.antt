-- What is promised of an attribute's values: document 02, No. 8, "give its value in any point with the bits as stored".
use Rattle.std.specs.Prelude.{Result, Ok, Err}
use Rattle.refusal.specs.Refused.{at_record}
use Rattle.refusal.specs.declared.Refused.{Refused}
use Rattle.std.specs.Prelude.{ℕ, ◌+◌, ◌<◌, min, ◌≡◌, true, List, ◌⊎◌, take, drop, get_or}
use Rattle.std.proofs.Common.{ap, sym, ◌∙◌, ⊎_elim, arith}
use Rattle.std.specs.Borrow.{Bor}
use Rattle.le.specs.Le.{num, Bytes}
use Rattle.refusal.specs.declared.Refusal.{Refusal}
use Rattle.refusal.specs.declared.Refusal.TheVariants.{Index}
use Rattle.point.specs.Read.{extra_of}
use Rattle.outline.specs.declared.Outline.{Outline}
use Rattle.file.specs.Points.{point_format}
use Rattle.cursor.specs.Parts.{outline_in}
use Rattle.walker.specs.Begin.{walker_of}
use Rattle.walker.specs.Walk.{record_of}
use Rattle.walker.specs.Steps.{walked_on}
use Rattle.walker.specs.Theorems.{bytes_in_turn}
use Rattle.attribute.specs.declared.Attribute.{Attribute}
use Rattle.attribute.specs.Attributes.{sizes_of}
use Rattle.attribute.specs.Exact.{descriptors, FoundIn}
use Rattle.attribute_value.specs.Value.{value_at, lies, placed_of, bytes_of, bits_of}
use Rattle.attribute_value.specs.Many.{column_of}
use Rattle.attribute_value.specs.Laws.{so_lies, lies-not, placed_at, not-placed}
use Rattle.attribute_value.specs.InFile.{value-lies, in_extra}
use Rattle.attribute_value.specs.Filled.{bits_are, entry_is, rest_is, was-refused}

module _ (allowance : ℕ) (name : List ℕ) (file : Bor (List ℕ)) (bytes : Bytes file.now) {a : Attribute} (found : FoundIn allowance file.now name a) where
  abbrev s : List ℕ
  s = file.now

  abbrev o : Outline
  o = outline_in s

  -- "give its value in any point": of the k-th point, counted from 0, which is the point of number k + 1, it is the part of the walker's record's
  -- extra bytes that lies behind the values before it.
  pub as_walked : (k : ℕ) → k < o.number_of_point_records
      → (let walker's = record_of s (walked_on k (walker_of allowance file)).place in
      bytes_of a (k + 1) s ≡ take a.size (drop (sizes_of found.j (descriptors allowance s found.start found.n)) (extra_of (point_format o) walker's)))
  as_walked k h =
      in_extra allowance name s bytes found k h
      ∙ ap (λ (r : List ℕ). take a.size (drop (sizes_of found.j (descriptors allowance s found.start found.n)) (extra_of (point_format o) r))) (sym (bytes_in_turn allowance file found.vlr.0.0 found.vlr.0.1 bytes k h))

  -- it stands there in the file,
  pub placed_in : (k : ℕ) → k < o.number_of_point_records → placed_of a (k + 1) s ≡ Ok (value_at a (k + 1))
  placed_in k h = placed_at a (k + 1) s (so_lies a (k + 1) s (value-lies allowance name s bytes found k h))

  -- and "index (27)" is answered for no other points than 0 and those past the last, with the point count.
  pub refused_index : (point : ℕ) → (o.number_of_point_records < point) ⊎ (point ≡ 0) → placed_of a point s ≡ Err (Index o.number_of_point_records)
  refused_index point out = not-placed a point s (lies-not a point s (λ l. ⊎_elim (λ h. omega (arith, l.counted, found.count)) (λ h. omega (arith, l.one)) out)) ∙ ap (λ (n : ℕ). Err (Index n)) found.count

-- "bits as stored": the number shown is the value's first eight bytes, and all of it where it has no more.
pub bits-stored : (a : Attribute) (point : ℕ) (s : List ℕ) → lies a point s ≡ true → bits_of a point s ≡ num (min a.size 8) (value_at a point) s
bits-stored = bits_are

-- Many points at once: each entry is what the point's own call gives, what lies past them stays, and a refusal leaves the buffer.
module _ (a : Attribute) (first count : ℕ) (s d : List ℕ) where
  abbrev answer : Result ℕ Refused
  answer = (column_of a first count s d).0

  abbrev left : List ℕ
  left = (column_of a first count s d).1

  pub as_values : answer ≡ Ok count → (i : ℕ) → i < count → get_or left i 0 ≡ bits_of a (first + i) s
  as_values = entry_is a first count s d

  pub rest_kept : answer ≡ Ok count → drop count left ≡ drop count d
  rest_kept = rest_is a first count s d

  pub untouched : {why : Refusal} {k : ℕ} → answer ≡ Err (at_record why k) → left ≡ d
  untouched = was-refused a first count s d
