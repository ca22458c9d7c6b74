-- The rewritten file: its parts in their order, each written from what its reader answers; document 01, "rewriting".
use Rattle.rules.specs.NotAccepted.{refused_of}
use Rattle.std.specs.Prelude.{Result, Ok, Err}
use Rattle.refusal.specs.Refused.{at_record}
use Rattle.refusal.specs.declared.Refused.{Refused}
use Rattle.rules.specs.declared.NotAccepted.{NotAccepted}
use Rattle.std.specs.Prelude.{ℕ, cond, List, [], ◌∷◌, ◌++◌, leb, length, drop}
use Rattle.refusal.specs.declared.Refusal.TheVariants.{NoRoom}
use Rattle.outline.specs.declared.Outline.{Outline}
use Rattle.file.specs.Rules.{checked_of}
use Rattle.cursor.specs.declared.Part.{Part}
use Rattle.cursor.specs.Parts.{outline_in, parts_of, bytes_of}
use Rattle.rewrite.specs.Back.{part_back}

-- what stands for some parts
unfoldable pub back_of : Outline → List ℕ → List Part → List ℕ
back_of o s [] = []
back_of o s (p ∷ ps) = part_back o p.kind (bytes_of s p) ++ back_of o s ps

-- "too few entries, or for rewriting a destination shorter than the file: 22, after the file check", with the bytes wanted; "a
-- refusal .. leaves all lent memory untouched", and so does a rewriting past the file's length
abbrev pub rewritten_by : Result ℕ NotAccepted → List ℕ → ℕ → List ℕ → Result ℕ Refused × List ℕ
rewritten_by (Ok n) back m d = cond (leb m (length d)) (Ok m, back ++ drop m d) (Err (at_record (NoRoom m) 0), d)
rewritten_by (Err err) back m d = (Err (refused_of err), d)

unfoldable pub rewritten_of : ℕ → List ℕ → List ℕ → Result ℕ Refused × List ℕ
rewritten_of allowance s d = rewritten_by (checked_of allowance s) (back_of (outline_in s) s (parts_of (outline_in s) s)) (length s) d
