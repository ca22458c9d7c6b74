-- What the steps of the judgement go by.
use Rattle.std.specs.Prelude.{Ok}
use Rattle.std.specs.Prelude.{ℕ, ◌+◌, ◌*◌, ◌-◌, ◌^◌, ◌≤◌, ◌<◌, ◌≡◌, Bool, ◌&&◌, List, eqb, length, take, drop, get_or}
use Rattle.std.proofs.Math.Path.{refl}
use Rattle.format.specs.Fields.{len_of}
use Rattle.header.specs.declared.Header.{Header}
use Rattle.header.specs.Judged.{eq_list}
use Rattle.outline.specs.Outline.{outline_of}
use Rattle.file.specs.Points.{point_format}
use Rattle.tally.specs.declared.ByReturn.{ByReturn}
use Rattle.tally.specs.Tally.{by_return}
use Rattle.offer.specs.declared.Sweep.{Sweep}
use Rattle.offer.specs.Offer.{count_in, record_length, end_in, is_in, sweep_of}

-- the header of an accepted file: a record of the points' format is as long as it says, and the points end in the file
pub record Ready (h : Header) (s : List ℕ) : Type 0 where
  pub long : len_of (point_format (outline_of h)) ≡ Ok (record_length h)
  pub within : end_in h ≤ length s

-- and n records are there, counted by return
pub record Counted (h : Header) (records : List ℕ) (n : ℕ) (new : ByReturn) (s : List ℕ) : Type 0 where
  pub ready : Ready h s
  pub there : n * record_length h ≤ length records
  pub counts : new ≡ by_return (point_format (outline_of h)) n records

-- the records' bytes are there, and so are as many before the end where the count is higher by n
pub record Apart (end bytes : ℕ) (records : List ℕ) (n count believed : ℕ) (s : List ℕ) : Type 0 where
  pub there : bytes ≤ length records
  pub within : end ≤ length s
  pub last : count ≡ believed + n → bytes ≤ end

-- `is_in` by its numbers
unfoldable pub stand_last : ℕ → ℕ → List ℕ → ℕ → ℕ → ℕ → List ℕ → Bool
stand_last end bytes records n count believed s =
    eqb count (believed + n) && eq_list (take bytes (drop (end - bytes) s)) (take bytes records)

-- counts to which those of a header can be added in 64 bits
pub record Small (new : ByReturn) : Type 0 where
  pub first : new.first < 2 ^ 63
  pub second : new.second < 2 ^ 63
  pub third : new.third < 2 ^ 63
  pub fourth : new.fourth < 2 ^ 63
  pub fifth : new.fifth < 2 ^ 63

-- each of the header's counts with the new one
unfoldable pub total_of : List ℕ → ByReturn → ByReturn
total_of old new =
    record {
      first = get_or old 0 0 + new.first;
      second = get_or old 1 0 + new.second;
      third = get_or old 2 0 + new.third;
      fourth = get_or old 3 0 + new.fourth;
      fifth = get_or old 4 0 + new.fifth;
    }

-- a sweep by its numbers
abbrev pub sweep_by : ℕ → ℕ → ℕ → ByReturn → Sweep
sweep_by at bytes points by-return =
    record {
      at = at;
      bytes = bytes;
      points = points;
      first = by-return.first;
      second = by-return.second;
      third = by-return.third;
      fourth = by-return.fourth;
      fifth = by-return.fifth;
    }

-- the numbers are those of the header and the records
module _ (h : Header) (records : List ℕ) (n : ℕ) where
  pub sweep_is : sweep_of h records n ≡ sweep_by (end_in h) (n * record_length h) (count_in h + n) (total_of h.number_of_points_by_return (by_return (point_format (outline_of h)) n records))
  unfolding sweep_of total_of
  sweep_is = refl

  pub in_is : (believed : ℕ) (s : List ℕ) → is_in h records n believed s ≡ stand_last (end_in h) (n * record_length h) records n (count_in h) believed s
  unfolding is_in stand_last
  in_is believed s = refl
