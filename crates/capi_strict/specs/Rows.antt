-- The row of a strict check.
use Rattle.std.specs.Prelude.{Result, Ok, Err, ℕ, List, [], ◌∷◌}
use Rattle.refusal.specs.declared.Refusal.{Refusal}
use Rattle.words.specs.Rows.{refused_row}

abbrev pub fit_row : Result Unit Refusal → List ℕ
fit_row (Ok _) = 0 ∷ 0 ∷ 0 ∷ []
fit_row (Err r) = refused_row r 0
