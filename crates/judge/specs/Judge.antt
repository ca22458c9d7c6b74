-- Document 01, "Strict conversion", as document 02, No. 10 amends it: "a question, with no destination, that gives the first refusal other
-- than 22 or the bytes needed". Each record is what its reader says of its bytes.
use Rattle.std.specs.Prelude.{Result, Ok, Err, ℕ, zero, suc, ◌+◌, ◌*◌, Bool, true, false, cond, List, ltb, length, take, drop}
use Rattle.refusal.specs.Refused.{at_record}
use Rattle.judge.specs.Run.{run_of}
use Rattle.refusal.specs.declared.Refused.{Refused}
use Rattle.judge.specs.declared.Run.{Run}
use Rattle.refusal.specs.declared.Refusal.{Refusal}
use Rattle.point.specs.declared.Point.{Point}
use Rattle.refusal.specs.declared.Refusal.TheVariants.{Short}
use Rattle.refusal.specs.Table.{wanted_of}
use Rattle.format.specs.declared.Format.{Format}
use Rattle.point.specs.Read.{point_of}
use Rattle.strict.specs.Fit.{fit_of}
use Rattle.pairs.specs.declared.Plan.{Plan}
use Rattle.pairs.specs.Pairs.{old_pair, new_pair, planned_by}

-- a record that is read is judged by its point
abbrev pub fit_read : Result Point Refusal → Result Unit Refusal
fit_read (Ok p) = fit_of p
fit_read (Err r) = Err r

-- a record's refusal with its number, or what is said of the records after it
abbrev pub judged_by : Result Unit Refusal → ℕ → Result Unit Refused → Result Unit Refused
judged_by (Ok _) number later = later
judged_by (Err r) number later = Err (at_record r number)

-- "Then records in turn": `count` records of m bytes, the first of which has this number
unfoldable pub judge_run : Format → ℕ → ℕ → ℕ → List ℕ → Result Unit Refused
judge_run f m number zero s = Ok tt
judge_run f m number (suc k) s = judged_by (fit_of (point_of f (take m s))) number (judge_run f m (number + 1) k (drop m s))

-- "Upgrade has none of these record checks"
abbrev pub records_of : Bool → Plan → ℕ → List ℕ → Result Unit Refused
records_of true p count s = Ok tt
records_of false p count s = judge_run p.source p.source_length 1 count s

-- "source short 1 .. Then records"; the product is exact
unfoldable pub judged_of : Bool → Plan → ℕ → List ℕ → Result Unit Refused
judged_of up p count s =
    cond (ltb (length s) (count * p.source_length)) (Err (at_record (Short (wanted_of (count * p.source_length))) 0))
    (records_of up p count s)

-- a run that fits goes by its plan, and needs the bytes of its records in the target format
abbrev pub verdict_on : Plan → ℕ → Result Unit Refused → Result Run Refused
verdict_on p count (Ok _) = Ok (run_of p (count * p.target_length))
verdict_on p count (Err err) = Err err

-- 26 and 8 come first, with no record's number
abbrev pub verdict_by : Bool → ℕ → List ℕ → Result Plan Refusal → Result Run Refused
verdict_by up count s (Ok p) = verdict_on p count (judged_of up p count s)
verdict_by up count s (Err r) = Err (at_record r 0)

-- of the strict conversion, and of the upgrade
unfoldable pub old_verdict : ℕ → ℕ → ℕ → List ℕ → Result Run Refused
old_verdict format extra count s = verdict_by false count s (planned_by format (old_pair format extra))

unfoldable pub new_verdict : ℕ → ℕ → ℕ → List ℕ → Result Run Refused
new_verdict format extra count s = verdict_by true count s (planned_by format (new_pair format extra))
