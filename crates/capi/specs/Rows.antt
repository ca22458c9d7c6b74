-- What a row of three numbers says of an answer: document 01's number, value and record number; number 0 says that it worked, and the value is the result.
use Rattle.refusal.specs.declared.Refusal.{Refusal}
use Rattle.format.specs.declared.Format.{Format}
use Rattle.std.specs.Prelude.{ℕ, ◌+◌, ◌*◌, List, [], ◌∷◌, Result, Ok, Err}
use Rattle.words.specs.Words.{format_word}
use Rattle.words.specs.Rows.{refused_row}

abbrev pub new_row : Result Format Refusal → List ℕ
new_row (Ok f) = 0 ∷ format_word f ∷ 0 ∷ []
new_row (Err r) = refused_row r 0

abbrev pub len_row : Result ℕ Refusal → List ℕ
len_row (Ok n) = 0 ∷ n ∷ 0 ∷ []
len_row (Err r) = refused_row r 0

abbrev pub code_row : Result ℕ Refusal → List ℕ
code_row (Ok n) = 0 ∷ n ∷ 0 ∷ []
code_row (Err r) = refused_row r 0

abbrev pub two_row : Result (ℕ × ℕ) Refusal → List ℕ
two_row (Ok (a, b)) = 0 ∷ (a + b * 256) ∷ 0 ∷ []
two_row (Err r) = refused_row r 0
