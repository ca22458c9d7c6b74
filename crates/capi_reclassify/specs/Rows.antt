-- The rows of a class set, and of the question.
use Rattle.std.specs.Prelude.{Result, Ok, Err}
use Rattle.refusal.specs.declared.Refused.{Refused}
use Rattle.std.specs.Prelude.{ℕ, List, [], ◌∷◌}
use Rattle.words.specs.Rows.{refused_row}
use Rattle.reclassify.specs.declared.Change.{Change}

-- nothing is refused: the class that the point had
abbrev was_row : ℕ → List ℕ
was_row was = 0 ∷ was ∷ 0 ∷ []

-- that row, or the refusal's with its record number; the file beside it
abbrev pub reclassified_row : Result ℕ Refused × List ℕ → List ℕ × List ℕ
reclassified_row (Ok c, s) = (was_row c, s)
reclassified_row (Err err, s) = (refused_row err.refusal err.«record», s)

-- a change's two numbers: the byte's place in the file, and what it becomes
unfoldable pub change_numbers : Change → List ℕ
change_numbers c = c.at ∷ c.byte ∷ []

-- the change beside the row; a refusal leaves it
abbrev pub asked_row : Result Change Refused → List ℕ → List ℕ × List ℕ
asked_row (Ok c) d = (was_row c.class, change_numbers c)
asked_row (Err err) d = (refused_row err.refusal err.«record», d)
