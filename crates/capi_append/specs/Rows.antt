-- The append's answers as rows.
use Rattle.std.specs.Prelude.{Option, Some, None, Result, Ok, Err}
use Rattle.refusal.specs.declared.Refused.{Refused}
use Rattle.sectors.specs.declared.Sector.{Sector}
use Rattle.refusal.specs.declared.Refusal.{Refusal}
use Rattle.std.specs.Prelude.{ℕ, ◌%◌, List, [], ◌∷◌, get_or}
use Rattle.words.specs.Rows.{refused_row}
use Rattle.offer.specs.declared.Sweep.{Sweep}
use Rattle.offer.specs.declared.Offer.{Offer}
use Rattle.offer.specs.declared.Offer.TheVariants as offer
use Rattle.append.specs.declared.Appended.{Appended}
use Rattle.append.specs.declared.Appended.TheVariants as appended

-- nothing is refused, with this value
abbrev ok : ℕ → List ℕ
ok value = 0 ∷ value ∷ 0 ∷ []

-- a sweep's eight numbers, and the sweep of eight numbers
unfoldable pub sweep_numbers : Sweep → List ℕ
sweep_numbers w = w.at ∷ w.bytes ∷ w.points ∷ w.first ∷ w.second ∷ w.third ∷ w.fourth ∷ w.fifth ∷ []

unfoldable pub sweep_from : List ℕ → Sweep
sweep_from n =
    record {
      at = get_or n 0 0;
      bytes = get_or n 1 0;
      points = get_or n 2 0 % 4294967296;
      first = get_or n 3 0 % 4294967296;
      second = get_or n 4 0 % 4294967296;
      third = get_or n 5 0 % 4294967296;
      fourth = get_or n 6 0 % 4294967296;
      fifth = get_or n 7 0 % 4294967296;
    }

-- added 0, already in 1; the file beside it
abbrev pub appended_row : Result Appended Refused × List ℕ → List ℕ × List ℕ
appended_row (Ok appended.Added, s) = (ok 0, s)
appended_row (Ok appended.AlreadyIn, s) = (ok 1, s)
appended_row (Err err, s) = (refused_row err.refusal err.«record», s)

-- to be added 0, with the sweep's numbers; already in 1 and refusals leave these
abbrev pub begun_row : Result Offer Refused → List ℕ → List ℕ × List ℕ
begun_row (Ok (offer.Add w)) d = (ok 0, sweep_numbers w)
begun_row (Ok offer.AlreadyIn) d = (ok 1, d)
begun_row (Err err) d = (refused_row err.refusal err.«record», d)

-- a sector's place and bytes, two zeros past the last store; the file beside them
abbrev pub stored_row : Result (Option Sector) Refusal × List ℕ → List ℕ → List ℕ × (List ℕ × List ℕ)
stored_row (Ok (Some sector), s) d = (ok sector.len, (sector.at ∷ sector.len ∷ [], s))
stored_row (Ok None, s) d = (ok 0, (0 ∷ 0 ∷ [], s))
stored_row (Err r, s) d = (refused_row r 0, (d, s))
