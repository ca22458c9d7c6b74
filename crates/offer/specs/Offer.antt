-- What is done with records that are offered to a file: document 02, No. 1. All sums and products are exact.
use Rattle.rules.specs.NotAccepted.{refused_of}
use Rattle.std.specs.Prelude.{Result, Ok, Err}
use Rattle.refusal.specs.Refused.{at_record}
use Rattle.refusal.specs.declared.Refused.{Refused}
use Rattle.rules.specs.declared.NotAccepted.{NotAccepted}
use Rattle.std.specs.Prelude.{ℕ, ◌+◌, ◌*◌, ◌-◌, ◌^◌, Bool, cond, ◌&&◌, List, eqb, ltb, leb, length, take, drop, get_or}
use Rattle.refusal.specs.declared.Refusal.{Refusal}
use Rattle.refusal.specs.declared.Refusal.TheVariants.{Short, NoRoom, NotVersion12, NoRecords, CountNeither, CountTooLarge}
use Rattle.refusal.specs.Table.{wanted_of}
use Rattle.header.specs.declared.Header.{Header}
use Rattle.header.specs.Judged.{eq_list, header_in}
use Rattle.outline.specs.Outline.{outline_of}
use Rattle.extents.specs.Extents.{points_end}
use Rattle.file.specs.Rules.{checked_of}
use Rattle.file.specs.Points.{point_format}
use Rattle.tally.specs.Tally.{by_return}
use Rattle.offer.specs.declared.Sweep.{Sweep}
use Rattle.offer.specs.declared.Offer.{Offer}
use Rattle.offer.specs.declared.Offer.TheVariants.{Add, AlreadyIn}

-- what the header says: the points that stand there, the bytes of each, and where they end
abbrev pub count_in : Header → ℕ
count_in h = (outline_of h).number_of_point_records

abbrev pub record_length : Header → ℕ
record_length h = (outline_of h).point_data_record_length

abbrev pub end_in : Header → ℕ
end_in h = points_end (outline_of h)

-- the records that stand last: n of them, in the last n * L bytes of the points
abbrev pub last_bytes : Header → ℕ → List ℕ → List ℕ
last_bytes h n s = take (n * record_length h) (drop (end_in h - n * record_length h) s)

-- "Count higher by exactly n with those same bytes last"
unfoldable pub is_in : Header → List ℕ → ℕ → ℕ → List ℕ → Bool
is_in h records n believed s =
    eqb (count_in h) (believed + n) && eq_list (last_bytes h n s) (take (n * record_length h) records)

-- "the records go after the points, then the header's count, the five counts by return .. change": the records' place and bytes, and each
-- count with theirs
unfoldable pub sweep_of : Header → List ℕ → ℕ → Sweep
sweep_of h records n =
    let old = h.number_of_points_by_return in
    let new = by_return (point_format (outline_of h)) n records in
    record {
      at = end_in h;
      bytes = n * record_length h;
      points = count_in h + n;
      first = get_or old 0 0 + new.first;
      second = get_or old 1 0 + new.second;
      third = get_or old 2 0 + new.third;
      fourth = get_or old 3 0 + new.fourth;
      fifth = get_or old 4 0 + new.fifth;
    }

-- none of the counts is "over 2^32−1"
unfoldable pub counts_fit : Sweep → Bool
counts_fit w =
    ltb w.points (2 ^ 32)
    && (ltb w.first (2 ^ 32) && (ltb w.second (2 ^ 32) && (ltb w.third (2 ^ 32) && (ltb w.fourth (2 ^ 32) && ltb w.fifth (2 ^ 32)))))

abbrev pub no : Refusal → Result Offer Refused
no r = Err (at_record r 0)

-- "a count over 2^32−1; no room for the records"
unfoldable pub growing : Sweep → List ℕ → Result Offer Refused
growing w s = cond (counts_fit w) (cond (leb (w.at + w.bytes) (length s)) (Ok (Add w)) (no (NoRoom (w.at + w.bytes)))) (no CountTooLarge)

-- "Count as believed: ..", "already in", "count neither"
unfoldable pub counted : Header → List ℕ → ℕ → ℕ → List ℕ → Result Offer Refused
counted h records n believed s =
    cond (eqb (count_in h) believed) (growing (sweep_of h records n) s)
    (cond (is_in h records n believed s) (Ok AlreadyIn) (no CountNeither))

-- "not 1.2; n is zero; records short (1)"
unfoldable pub offered : Header → List ℕ → ℕ → ℕ → List ℕ → Result Offer Refused
offered h records n believed s =
    let wanted = n * record_length h in
    cond (eqb h.version.minor 2)
    (cond (eqb n 0) (no NoRecords) (cond (ltb (length records) wanted) (no (Short (wanted_of wanted))) (counted h records n believed s)))
    (no NotVersion12)

-- "Refusals, after 01's file check"
abbrev pub offer_by : Result ℕ NotAccepted → List ℕ → ℕ → ℕ → List ℕ → Result Offer Refused
offer_by (Err err) records n believed s = Err (refused_of err)
offer_by (Ok found) records n believed s = offered (header_in s) records n believed s

unfoldable pub offer_of : ℕ → List ℕ → ℕ → ℕ → List ℕ → Result Offer Refused
offer_of allowance records n believed s = offer_by (checked_of allowance s) records n believed s
