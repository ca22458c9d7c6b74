-- What the definitions add up to for the eleven formats of the standard.
use Rattle.std.specs.Prelude.{Ok}
use Rattle.std.specs.Prelude.{ℕ, ◌≡◌, refl, false, [], ◌∷◌, map}
use Rattle.fields.specs.Table.{Follow}
use Rattle.format.specs.declared.Format.{Format}
use Rattle.format.specs.Fields.{fields_of, size_of, place_of, record_bytes}
use Rattle.format.specs.Laws.{fields_follow}
use Rattle.format.specs.Codes.{is_in, coded, first_with, code_by, code_of, codes}

-- "Point record bytes, formats 0 to 10: 20, 28, 26, 34, 57, 63, 30, 36, 38, 59, 67", from the field table
pub record_sizes : map (λ (n : ℕ). record_bytes (coded n false)) codes ≡ 20 ∷ 28 ∷ 26 ∷ 34 ∷ 57 ∷ 63 ∷ 30 ∷ 36 ∷ 38 ∷ 59 ∷ 67 ∷ []
unfolding is_in coded fields_of record_bytes
record_sizes = refl

-- each format's code is its own: no two have the same attributes
pub codes_back : map (λ (n : ℕ). code_of (coded n false)) codes ≡ map Ok codes
unfolding is_in coded first_with code_by code_of
codes_back = refl

-- "Order: X, Y, Z .. then extra bytes": in every set of attributes the fields follow each other without gap or overlap
pub record_places : (f : Format) → Follow (size_of f) (place_of f) 0 (fields_of f)
record_places f = fields_follow f
