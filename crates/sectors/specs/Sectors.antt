-- The stores of an append: document 02, No. 1, "Stores are whole 512-byte sectors (the last may be less): point sectors ascending, each
-- with the old header, then sector 0 with the new."
use Rattle.std.specs.Prelude.{Option, Some, None, Result, Ok, Err}
use Rattle.sectors.specs.Sector.{sector_at}
use Rattle.sectors.specs.declared.Sector.{Sector}
use Rattle.refusal.specs.declared.Refusal.{Refusal}
use Rattle.std.specs.Prelude.{ℕ, zero, suc, ◌+◌, ◌*◌, ◌-◌, ◌/◌, min, max, cond, List, [], ◌∷◌, eqb, ltb, length, take, drop}
use Rattle.std.proofs.lemmas.List.Edits.{sets}
use Rattle.refusal.specs.declared.Refusal.TheVariants.{Short, NoRoom}
use Rattle.refusal.specs.Table.{wanted_of}
use Rattle.le.specs.Le.{bytes}
use Rattle.fields.specs.Table.{joined}
use Rattle.header.specs.Layout.{LegacyNumberOfPointRecords, LegacyNumberOfPointsByReturn, MaxX, place}
use Rattle.offer.specs.declared.Sweep.{Sweep}

-- the sectors that the records touch: from the one that the first byte is in, up to the one that the last is in
unfoldable pub point_stores : Sweep → ℕ
point_stores w = (w.at + w.bytes + 511) / 512 - w.at / 512

-- these, and sector 0
unfoldable pub stores_of : Sweep → ℕ
stores_of w = point_stores w + 1

-- the sector of a number in a file of so many bytes
abbrev pub sector_of : ℕ → ℕ → Result (Option Sector) Refusal
sector_of number size = Ok (Some (sector_at (512 * number) (min 512 (size - 512 * number))))

-- the file s with those bytes of the records that fall into the sector of this number
unfoldable pub with_records : Sweep → List ℕ → ℕ → List ℕ → List ℕ
with_records w records number s =
    let from = max w.at (512 * number) in
    let to = min (w.at + w.bytes) (512 * number + 512) in
    sets s from (take (to - from) (drop (from - w.at) records))

-- the counts of a sweep in the header's order
abbrev pub by_return_of : Sweep → List ℕ
by_return_of w = w.first ∷ w.second ∷ w.third ∷ w.fourth ∷ w.fifth ∷ []

-- "the header's count, the five counts by return .. and the bounds change": max x, min x, max y, min y, max z, min z, as their bits
unfoldable pub with_header : Sweep → List ℕ → List ℕ → List ℕ
with_header w bounds s =
    let counted = sets s (place LegacyNumberOfPointRecords) (bytes 4 w.points) in
    let by-return = sets counted (place LegacyNumberOfPointsByReturn) (joined (bytes 4) (by_return_of w)) in
    sets by-return (place MaxX) (joined (bytes 8) bounds)

-- "point sectors ascending, each with the old header, then sector 0 with the new"
unfoldable pub step_of : Sweep → List ℕ → List ℕ → ℕ → List ℕ → Result (Option Sector) Refusal × List ℕ
step_of w records bounds k s =
    let number = w.at / 512 + k in
    cond (ltb k (point_stores w)) (sector_of number (length s), with_records w records number s)
    (cond (eqb k (point_stores w)) (sector_of 0 (length s), with_header w bounds s) ((Ok None), s))

-- a sweep made by hand is refused where its records are not there or have no place
unfoldable pub stored_of : Sweep → List ℕ → List ℕ → ℕ → List ℕ → Result (Option Sector) Refusal × List ℕ
stored_of w records bounds k s =
    cond (ltb (length records) w.bytes) (Err (Short w.bytes), s)
    (cond (ltb (length s) (w.at + w.bytes)) (Err (NoRoom (wanted_of (w.at + w.bytes))), s)
    (step_of w records bounds k s))

-- the file after the first k stores
unfoldable pub after_stores : Sweep → List ℕ → List ℕ → ℕ → List ℕ → List ℕ
after_stores w records bounds zero s = s
after_stores w records bounds (suc k) s = (stored_of w records bounds k (after_stores w records bounds k s)).1
