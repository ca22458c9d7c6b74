-- An attribute and a place among the attributes as five numbers, and the rows of their calls.
use Rattle.std.specs.Prelude.{Option, Some, None, Result, Ok, Err}
use Rattle.refusal.specs.declared.Refused.{Refused}
use Rattle.refusal.specs.declared.Refusal.{Refusal}
use Rattle.first_vlr.specs.declared.Span.{Span}
use Rattle.outline.specs.declared.Outline.{Outline}
use Rattle.std.specs.Prelude.{ℕ, ◌%◌, Bool, true, false, List, [], ◌∷◌, get_or}
use Rattle.words.specs.Rows.{refused_row}
use Rattle.descriptor.specs.Layout.{descriptor_size}
use Rattle.first_vlr.specs.First.{first_of}
use Rattle.attribute.specs.declared.Attribute.{Attribute}
use Rattle.attribute.specs.declared.Attributes.{Attributes}
use Rattle.attribute.specs.declared.Step.{Step}
use Rattle.attribute.specs.Attributes.{next_of}
use Rattle.attribute_value.specs.Value.{placed_of, bits_of}

-- an attribute: its type, the bytes of a value, the first one's place, how far the next one is, and the points; and the attribute of five
-- numbers, of the type its low bits
unfoldable pub attribute_numbers : Attribute → List ℕ
attribute_numbers a = a.data_type ∷ a.size ∷ a.at ∷ a.stride ∷ a.count ∷ []

unfoldable pub attribute_from : List ℕ → Attribute
attribute_from n = record { data_type = get_or n 0 0 % 256; size = get_or n 1 0; at = get_or n 2 0; stride = get_or n 3 0; count = get_or n 4 0 }

-- a place: the next descriptor, how many are left, the next one's first value, how far its next one is, and the points; and the place of
-- five numbers
unfoldable pub place_numbers : Attributes → List ℕ
place_numbers c = c.descriptor ∷ c.left ∷ c.at ∷ c.stride ∷ c.count ∷ []

unfoldable pub place_from : List ℕ → Attributes
place_from n = record { descriptor = get_or n 0 0; left = get_or n 1 0; at = get_or n 2 0; stride = get_or n 3 0; count = get_or n 4 0 }

-- the row, whose value is how many attributes there are, and the place n, which a refusal leaves
abbrev pub begun_row : List ℕ → Result Attributes Refused → List ℕ × List ℕ
begun_row n (Ok c) = (0 ∷ c.left ∷ 0 ∷ [], place_numbers c)
begun_row n (Err err) = (refused_row err.refusal err.«record», n)

-- whether there is an attribute, and then the place after it, its numbers and its descriptor's span in place of n, a and d
abbrev pub stepped : Option Step → List ℕ → List ℕ → List ℕ → Bool × List ℕ × List ℕ × List ℕ
stepped (Some t) n a d = (true, place_numbers t.next, attribute_numbers t.attribute, t.descriptor ∷ descriptor_size ∷ [])
stepped None n a d = (false, n, a, d)

unfoldable pub next_row : List ℕ → List ℕ → List ℕ → List ℕ → Bool × List ℕ × List ℕ × List ℕ
next_row s n a d = stepped (next_of s (place_from n)) n a d

-- the row and the attribute a, which a refusal leaves
abbrev pub found_row : List ℕ → Result Attribute Refused → List ℕ × List ℕ
found_row a (Ok b) = (0 ∷ 0 ∷ 0 ∷ [], attribute_numbers b)
found_row a (Err err) = (refused_row err.refusal err.«record», a)

-- the row, whose value is the first eight bytes of a value, and the span d, which a refusal leaves
abbrev pub value_by : List ℕ → ℕ → ℕ → Result ℕ Refusal → List ℕ × List ℕ
value_by d size bits (Ok at) = (0 ∷ bits ∷ 0 ∷ [], at ∷ size ∷ [])
value_by d size bits (Err r) = (refused_row r 0, d)

unfoldable pub value_row : List ℕ → Attribute → ℕ → List ℕ → List ℕ × List ℕ
value_row d a point s = value_by d a.size (bits_of a point s) (placed_of a point s)

-- the row, whose value says whether there is one, and the span d, which no VLR and a refusal leave
abbrev pub first_by : List ℕ → Option Span → List ℕ × List ℕ
first_by d (Some at) = (0 ∷ 1 ∷ 0 ∷ [], at.start ∷ at.length ∷ [])
first_by d None = (0 ∷ 0 ∷ 0 ∷ [], d)

abbrev pub first_row : List ℕ → ℕ → List ℕ → List ℕ → Result Outline Refused → List ℕ × List ℕ
first_row user id s d (Ok o) = first_by d (first_of o user id s)
first_row user id s d (Err err) = (refused_row err.refusal err.«record», d)
