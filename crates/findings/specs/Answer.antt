-- What is answered of a file's findings, and the buffer after it.
use Rattle.rules.specs.NotAccepted.{refused_of}
use Rattle.std.specs.Prelude.{Result, Ok, Err, ℕ, ◌+◌, ◌*◌, ◌/◌, ◌≤◌, ◌≡◌, cond, List, ◌++◌, ltb, length, drop}
use Rattle.refusal.specs.Refused.{at_record}
use Rattle.refusal.specs.declared.Refused.{Refused}
use Rattle.rules.specs.declared.NotAccepted.{NotAccepted}
use Rattle.refusal.specs.declared.Refusal.TheVariants.{NoRoom}
use Rattle.file.specs.Rules.{checked_of}
use Rattle.cursor.specs.declared.Cursor.{Cursor}
use Rattle.cursor.specs.Cursor.{left_of}
use Rattle.cursor.specs.Parts.{Covers}
use Rattle.returns.specs.declared.Survey.{Survey}
use Rattle.returns.specs.Returns.{odd_of}
use Rattle.finding.specs.declared.Finding.{Finding}
use Rattle.findings.specs.Found.{found_of}
use Rattle.finding.specs.Told.{all_numbers}

-- "Refusals, in order: the file's own; no room for the findings, giving how many there are."
abbrev pub answer_to : List Finding → List ℕ → Result ℕ Refused × List ℕ
answer_to fs d = cond (ltb (length d / 4) (length fs)) (Err (at_record (NoRoom (length fs)) 0), d) (Ok (length fs), all_numbers fs ++ drop (length fs * 4) d)

abbrev pub answer_by : Result ℕ NotAccepted → List Finding → List ℕ → Result ℕ Refused × List ℕ
answer_by (Ok n) fs d = answer_to fs d
answer_by (Err err) fs d = (Err (refused_of err), d)

unfoldable pub findings_of : ℕ → List ℕ → List ℕ → Result ℕ Refused × List ℕ
findings_of allowance s d = answer_by (checked_of allowance s) (found_of s) d

-- What the private steps go by: the points of a survey end in the file, and are counted.
pub record Surveyed (s : List ℕ) (v : Survey) : Type 0 where
  pub within : v.at + v.count * v.each ≤ length s
  pub odd : v.returns.odd ≡ odd_of v.extended v.each v.count (drop v.at s)

-- A cursor at the first part of a file: its parts follow one another.
pub record Begun (s : List ℕ) (v : Survey) (c : Cursor) : Type 0 where
  pub surveyed : Surveyed s v
  pub covers : Covers 0 (length s) (left_of s c)
