-- The rows of columns.
use Rattle.std.specs.Prelude.{Result, Ok, Err, ℕ, List, [], ◌∷◌}
use Rattle.refusal.specs.declared.Refused.{Refused}
use Rattle.words.specs.Rows.{refused_row}

-- the count of entries, or the refusal with its record number
abbrev pub filled_row : Result ℕ Refused → List ℕ
filled_row (Ok n) = 0 ∷ n ∷ 0 ∷ []
filled_row (Err err) = refused_row err.refusal err.«record»

-- and the buffer, or three of them, beside it
abbrev pub told_of : {A : Type 0} → Result ℕ Refused × A → List ℕ × A
told_of x = (filled_row x.0, x.1)
