-- The parts of an accepted file, in file order: document 01, "The part table", with document 02's No. 11.
use Rattle.std.specs.Prelude.{ℕ, zero, suc, ◌+◌, ◌-◌, ◌≤◌, ◌≡◌, Bool, true, false, cond, List, [], ◌∷◌, ◌++◌, eqb, ltb, length, take, drop}
use Rattle.vlr.specs.Vlr.{record_size}
use Rattle.header.specs.Judged.{header_in}
use Rattle.outline.specs.declared.Outline.{Outline}
use Rattle.outline.specs.Outline.{outline_of}
use Rattle.extents.specs.Extents.{points_end}
use Rattle.rules.specs.Records.{Run}
use Rattle.cursor.specs.declared.Kind.{Kind}
use Rattle.cursor.specs.declared.Kind.TheVariants.{Header, Vlr, Gap, Points, Evlr, Waveform}
use Rattle.cursor.specs.declared.Part.{Part}

-- an entry: "kind, start, length"
abbrev pub part : Kind → ℕ → ℕ → Part
part kind start n = record { kind = kind; start = start; length = n }

-- "Bytes between parts, and after the last, are gaps", "empty gaps omitted"
unfoldable pub gap : ℕ → ℕ → List Part
gap from to = cond (ltb from to) (part Gap from (to - from) ∷ []) []

-- the bytes of s from one place up to another
abbrev pub between : ℕ → ℕ → List ℕ → List ℕ
between from to s = take (to - from) (drop from s)

-- k records one after the other from `at` on, and the gap after them, which ends at `to`
unfoldable pub record_parts : Kind → Bool → ℕ → ℕ → ℕ → List ℕ → List Part
record_parts kind extended zero at to s = gap at to
record_parts kind extended (suc k) at to s =
    let n = record_size extended (between at to s) in
    part kind at n ∷ record_parts kind extended k (at + n) to s

-- what the header of the file s says of its parts
abbrev pub outline_in : List ℕ → Outline
outline_in s = outline_of (header_in s)

-- what they are: document 02, No. 11, "a part of its own kind, `waveform`"
unfoldable pub later_kind : Bool → Kind
later_kind waveform = cond waveform Waveform Evlr

-- where the later records start; without any, the end of the points
unfoldable pub later_start : Outline → ℕ
later_start o = cond (eqb o.number_of_later_records 0) (points_end o) o.start_of_later_records

-- "filled in file order, header with its padding first, empty gaps omitted, points always present"
unfoldable pub body_of : Outline → List ℕ → List Part
body_of o s =
    let points = o.offset_to_point_data in
    record_parts Vlr false o.number_of_variable_length_records o.header_size points s
    ++ (part Points points (points_end o - points) ∷
    (gap (points_end o) (later_start o)
    ++ record_parts (later_kind o.waveform) true o.number_of_later_records (later_start o) (length s) s))

unfoldable pub parts_of : Outline → List ℕ → List Part
parts_of o s = part Header 0 o.header_size ∷ body_of o s

-- What the rules of an accepted file say of its parts.
pub record Laid (o : Outline) (s : List ℕ) : Type 0 where
  pub after_header : o.header_size ≤ o.offset_to_point_data
  pub vlrs : Run false o.number_of_variable_length_records (between o.header_size o.offset_to_point_data s)
  pub after-points : points_end o ≤ later_start o
  pub within : later_start o ≤ length s
  pub later : Run true o.number_of_later_records (between (later_start o) (length s) s)

-- The parts ps cover the bytes from one place up to another, none overlapping: each starts where the one before it ends.
abbrev pub Covers : ℕ → ℕ → List Part → Type 0
Covers from to [] = from ≡ to
Covers from to (p ∷ ps) = (p.start ≡ from) × Covers (from + p.length) to ps

-- something is so of each of some parts
abbrev pub Each : (Part → Type 0) → List Part → Type 0
Each P [] = Unit
Each P (p ∷ ps) = P p × Each P ps

-- the bytes of a part, and of several
abbrev pub bytes_of : List ℕ → Part → List ℕ
bytes_of s p = take p.length (drop p.start s)

abbrev pub joined : List ℕ → List Part → List ℕ
joined s [] = []
joined s (p ∷ ps) = bytes_of s p ++ joined s ps
