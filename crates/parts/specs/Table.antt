-- What filling a part table answers and leaves.
use Rattle.rules.specs.NotAccepted.{refused_of}
use Rattle.std.specs.Prelude.{Result, Ok, Err}
use Rattle.refusal.specs.Refused.{at_record}
use Rattle.refusal.specs.declared.Refused.{Refused}
use Rattle.rules.specs.declared.NotAccepted.{NotAccepted}
use Rattle.std.specs.Prelude.{ℕ, false, cond, List, ◌++◌, leb, ltb, length, drop}
use Rattle.refusal.specs.declared.Refusal.TheVariants.{NoRoom}
use Rattle.file.specs.Rules.{checked_of}
use Rattle.cursor.specs.declared.Part.{Part}
use Rattle.cursor.specs.declared.Cursor.{Cursor}
use Rattle.cursor.specs.Parts.{outline_in, parts_of}
use Rattle.cursor.specs.Cursor.{started_of, left_of}

-- "a lent table of part entries (kind, start, length) is filled in file order .. Entries past the last are unchanged; too few
-- entries ..: 22, after the file check", with "bytes or entries wanted"; a refusal "leaves all lent memory untouched"
abbrev pub tabled_by : Result ℕ NotAccepted → List Part → List Part → Result ℕ Refused × List Part
tabled_by (Ok n) ps t = cond (leb (length ps) (length t)) (Ok (length ps), ps ++ drop (length ps) t) (Err (at_record (NoRoom (length ps)) 0), t)
tabled_by (Err err) ps t = (Err (refused_of err), t)

unfoldable pub tabled_of : ℕ → List ℕ → List Part → Result ℕ Refused × List Part
tabled_of allowance s t = tabled_by (checked_of allowance s) (parts_of (outline_in s) s) t

-- What the private step goes by: the cursor at the first part, where there is room for all.
abbrev pub roomy_by : Result Cursor Refused → List ℕ → ℕ → Result Cursor Refused
roomy_by (Ok c) s room = let wanted = length (left_of s c) in cond (ltb room wanted) (Err (at_record (NoRoom wanted) 0)) (Ok c)
roomy_by (Err err) s room = Err err

unfoldable pub roomy_of : ℕ → List ℕ → ℕ → Result Cursor Refused
roomy_of allowance s room = roomy_by (started_of allowance s) s room
