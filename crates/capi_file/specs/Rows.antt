-- The rows of the file check, of rewriting and of the format of the points.
use Rattle.std.specs.Prelude.{Result, Ok, Err}
use Rattle.refusal.specs.declared.Refusal.{Refusal}
use Rattle.refusal.specs.declared.Refused.{Refused}
use Rattle.rules.specs.declared.NotAccepted.{NotAccepted}
use Rattle.std.specs.Prelude.{ℕ, List, [], ◌∷◌}
use Rattle.refusal.specs.Table.{row_of}
use Rattle.words.specs.Words.{format_word}
use Rattle.words.specs.Rows.{refused_row}
use Rattle.header.specs.declared.Header.{Header}
use Rattle.outline.specs.Outline.{outline_of}
use Rattle.file.specs.Points.{point_format}

-- number, value, record number, and the records found whole
abbrev pub checked_row : Result ℕ NotAccepted → List ℕ
checked_row (Ok n) = 0 ∷ 0 ∷ 0 ∷ n ∷ []
checked_row (Err err) = let row = row_of err.refusal err.«record» in row.number ∷ row.value ∷ row.«record» ∷ err.records ∷ []

-- a rewriting's row, whose value is the count of bytes, and the destination beside it
abbrev pub rewrote_by : Result ℕ Refused → List ℕ
rewrote_by (Ok n) = 0 ∷ n ∷ 0 ∷ []
rewrote_by (Err err) = refused_row err.refusal err.«record»

abbrev pub rewrote_row : Result ℕ Refused × List ℕ → List ℕ × List ℕ
rewrote_row w = (rewrote_by w.0, w.1)

-- the format of the points as a word, which a refused header's row stands in for
abbrev pub format_row : Result Header Refusal → List ℕ
format_row (Ok h) = 0 ∷ format_word (point_format (outline_of h)) ∷ 0 ∷ []
format_row (Err r) = refused_row r 0
