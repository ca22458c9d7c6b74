-- The rows of conversions.
use Rattle.std.specs.Prelude.{Result, Ok, Err, ℕ, List, [], ◌∷◌}
use Rattle.refusal.specs.declared.Refused.{Refused}
use Rattle.words.specs.Rows.{refused_row}

-- the count of bytes, or the refusal with its record number
abbrev pub converted_row : Result ℕ Refused → List ℕ
converted_row (Ok n) = 0 ∷ n ∷ 0 ∷ []
converted_row (Err err) = refused_row err.refusal err.«record»

-- and the destination beside it
abbrev pub told_of : Result ℕ Refused × List ℕ → List ℕ × List ℕ
told_of w = (converted_row w.0, w.1)
