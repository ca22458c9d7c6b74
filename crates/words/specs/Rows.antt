-- An answer as a row of three numbers: document 01's number, value and record number; number 0 says that it worked.
use Rattle.std.specs.Prelude.{ℕ, cond, List, [], ◌∷◌, eqb, Result, Ok, Err}
use Rattle.refusal.specs.declared.Refusal.{Refusal}
use Rattle.refusal.specs.Table.{row_of}

abbrev pub refused_row : Refusal → ℕ → List ℕ
refused_row r n = let row = row_of r n in row.number ∷ row.value ∷ row.«record» ∷ []

-- a write's row, whose value is the count of bytes
abbrev pub wrote_row : Result ℕ Refusal → List ℕ
wrote_row (Ok n) = 0 ∷ n ∷ 0 ∷ []
wrote_row (Err r) = refused_row r 0

-- and the destination beside it
abbrev pub written_row : Result ℕ Refusal × List ℕ → List ℕ × List ℕ
written_row w = (wrote_row w.0, w.1)

-- a part of a lent slice: its first byte and its bytes; an empty part is two zeros
unfoldable pub part_row : ℕ → ℕ → List ℕ
part_row at n = cond (eqb n 0) (0 ∷ 0 ∷ []) (at ∷ n ∷ [])
