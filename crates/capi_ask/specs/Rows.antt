-- The rows of questions.
use Rattle.std.specs.Prelude.{Result, Ok, Err, ℕ, List, [], ◌∷◌}
use Rattle.judge.specs.declared.Run.{Run}
use Rattle.refusal.specs.declared.Refused.{Refused}
use Rattle.words.specs.Rows.{refused_row}

-- the count of bytes needed, or the refusal with its record number
abbrev pub asked_row : Result Run Refused → List ℕ
asked_row (Ok run) = 0 ∷ run.bytes ∷ 0 ∷ []
asked_row (Err err) = refused_row err.refusal err.«record»
