-- The parts of a file as numbers: document 01, "a lent table of part entries (kind, start, length)".
use Rattle.std.specs.Prelude.{ℕ, ◌*◌, cond, List, [], ◌∷◌, ◌++◌, ltb, length, drop}
use Rattle.refusal.specs.declared.Refusal.TheVariants.{NoRoom}
use Rattle.words.specs.Rows.{refused_row}
use Rattle.cursor.specs.declared.Part.{Part}
use Rattle.file.specs.Rules.{checked_of}
use Rattle.cursor.specs.Parts.{outline_in, parts_of}
use Rattle.cursor.specs.Started.{by_check}
use Rattle.capi_cursor.specs.Numbers.{kind_number}

-- three numbers for each part
unfoldable pub numbers_of : List Part → List ℕ
numbers_of [] = []
numbers_of (p ∷ ps) = kind_number p.kind ∷ p.start ∷ p.length ∷ numbers_of ps

-- the row and the table d: 22 with the parts wanted where d is too short, and what lies past the last part stays
unfoldable pub table_row : List Part → List ℕ → List ℕ × List ℕ
table_row ps d =
    cond (ltb (length d) (3 * length ps)) (refused_row (NoRoom (length ps)) 0, d)
    (0 ∷ length ps ∷ 0 ∷ [], numbers_of ps ++ drop (3 * length ps) d)

-- the parts of an accepted file, or the file check's refusal, which leaves the table
unfoldable pub parts_row : ℕ → List ℕ → List ℕ → List ℕ × List ℕ
parts_row allowance s d =
    by_check (λ ps. table_row ps d) (λ r k. (refused_row r k, d)) (parts_of (outline_in s) s) (checked_of allowance s)
