-- The rows of findings.
use Rattle.std.specs.Prelude.{Result, Ok, Err, ℕ, List, [], ◌∷◌}
use Rattle.refusal.specs.declared.Refused.{Refused}
use Rattle.words.specs.Rows.{refused_row}

-- how many there are, or the refusal with its record number; the buffer beside it
abbrev pub findings_row : Result ℕ Refused × List ℕ → List ℕ × List ℕ
findings_row (Ok n, d) = (0 ∷ n ∷ 0 ∷ [], d)
findings_row (Err err, d) = (refused_row err.refusal err.«record», d)
