-- When a file is accepted: document 01, rules 1 to 8, in their order, with document 02's No. 11. All sums are exact.
use Rattle.std.specs.Prelude.{Result, Ok, Err}
use Rattle.header.specs.declared.Whole.{Whole}
use Rattle.header.specs.declared.Header.{Header}
use Rattle.refusal.specs.declared.Refusal.{Refusal}
use Rattle.rules.specs.declared.NotAccepted.{NotAccepted}
use Rattle.std.specs.Prelude.{ℕ, false, List, [], ◌∷◌, ◌++◌}
use Rattle.header.specs.Judged.{judged, header_in}
use Rattle.outline.specs.Outline.{outline_of}
use Rattle.rules.specs.Rules.{Rule, rule, first}
use Rattle.extents.specs.Extents.{outline_rules, records_of}

-- Rule 1, the header reader.
unfoldable pub readable : Result Whole Refusal → List Rule
readable (Ok whole) = []
readable (Err r) = rule false r 0 ∷ []

-- the standard size of the header's block
unfoldable pub standard_size : Result Whole Refusal → ℕ
standard_size (Ok whole) = whole.block
standard_size (Err r) = 0

-- The rules for the file s, in their order.
unfoldable pub rules_of : ℕ → List ℕ → List Rule
rules_of allowance s =
    let h = header_in s in
    readable (judged s) ++ outline_rules (standard_size (judged s)) h.version.minor allowance (outline_of h) s

-- What the file check answers: the first refusal, or accepted with all its records.
unfoldable pub checked_of : ℕ → List ℕ → Result ℕ NotAccepted
checked_of allowance s = first (rules_of allowance s) (Ok (records_of (outline_of (header_in s))))

-- The header of an accepted file, and the same refusal else.
unfoldable pub opened_by : Result ℕ NotAccepted → List ℕ → Result Header NotAccepted
opened_by (Ok found) s = Ok (header_in s)
opened_by (Err err) s = Err err

unfoldable pub opened_of : ℕ → List ℕ → Result Header NotAccepted
opened_of allowance s = opened_by (checked_of allowance s) s
