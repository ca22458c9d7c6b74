-- The bytes of a record that are looked at say what its point says.
use Rattle.std.specs.Prelude.{Result, Ok, Err, ℕ, ◌+◌, ◌*◌, ◌≤◌, ◌≡◌, refl, Bool, List, length, drop}
use Rattle.rules.specs.declared.NotAccepted.{NotAccepted}
use Rattle.std.proofs.Math.Path.{ap}
use Rattle.std.proofs.Common.{sym, ◌∙◌, arith, take-take, to_z}
use Rattle.std.proofs.Math.ListN.{take}
use Rattle.std.specs.Int.{w32}
use Rattle.le.specs.Le.{num}
use Rattle.le.specs.Laws.{num-take}
use Rattle.format.specs.declared.Format.{Format}
use Rattle.format.specs.Fields.{record_bytes}
use Rattle.format.specs.Laws.{record_sum}
use Rattle.flags.specs.Readings.{class_of, return_number_of}
use Rattle.point.specs.Read.{flags_at, point_of}
use Rattle.file.specs.Rules.{checked_of}
use Rattle.walker.specs.declared.Place.{Place}
use Rattle.walker.specs.Begin.{refused_place, begin_of}
use Rattle.walker.specs.Accepted.{begins}
use Rattle.column.specs.Stretch.{ends}
use Rattle.sheet_count.specs.Count.{only, counts_of, bounds_of, extent_in, part_at, tallied_at}
use Rattle.sheet_count.specs.File.{extent_at, tally_of}

-- no record is shorter
pub wide : (f : Format) → 20 ≤ record_bytes f
wide f = omega (arith, record_sum f)

-- its first bytes hold its flags,
flags_front : (e : Bool) (r : List ℕ) → flags_at e 14 (take 20 r) ≡ flags_at e 14 r
unfolding flags_at
flags_front e r =
    rw (num-take 1 14 r 20 (omega arith), num-take 1 15 r 20 (omega arith), num-take 1 16 r 20 (omega arith))

point_flags : (f : Format) (r : List ℕ) → flags_at f.is_extended 14 (take 20 r) ≡ (point_of f r).flags
unfolding point_of
point_flags f r = flags_front f.is_extended r

-- and its X, Y and Z
number-front : (k : ℕ) (r : List ℕ) → k + 4 ≤ 20 → to_z w32 (num 4 k (take 20 r)) ≡ to_z w32 (num 4 k r)
number-front k r h = ap (to_z w32) (num-take 4 k r 20 h)

module _ (p : Place) (s : List ℕ) where
  abbrev f : Format
  f = p.format

  abbrev m : ℕ
  m = record_bytes f

  abbrev part : ℕ → List ℕ
  part i = part_at p.at m s i

  cut : (i : ℕ) → part i ≡ take 20 (take m (drop (p.at + i * m) s))
  cut i = sym (take-take 20 m (drop (p.at + i * m) s) (wide f))

  same_flags : (i : ℕ) → flags_at f.is_extended 14 (part i) ≡ (point_of f (take m (drop (p.at + i * m) s))).flags
  same_flags i = ap (flags_at f.is_extended 14) (cut i) ∙ point_flags f (take m (drop (p.at + i * m) s))

  same-extent : (i : ℕ) → extent_in (part i) ≡ extent_at p s i
  unfolding extent_in point_of
  same-extent i =
      let r = take m (drop (p.at + i * m) s) in
      ap extent_in (cut i) ∙ (λ j. record { x = only (number-front 0 r (omega arith) j); y = only (number-front 4 r (omega arith) j); z = only (number-front 8 r (omega arith) j) })

  -- so the counts are of the points
  pub tallied : tallied_at f.is_extended p.at m p.count s ≡ tally_of p s
  unfolding tallied_at tally_of
  tallied = λ j. record {
    points = p.count;
    classes = counts_of 256 (λ i. class_of (same_flags i j)) p.count;
    returns = counts_of 16 (λ i. return_number_of (same_flags i j)) p.count;
    bounds = bounds_of (λ i. same-extent i j) p.count;
  }

-- and the records before which a walker starts stand in the file: of a refused one there are none
pub in_file : (allowance : ℕ) (s : List ℕ) → (let p = begin_of allowance s in p.at + p.count * record_bytes p.format ≤ length s)
unfolding begin_of refused_place
in_file allowance s = go (checked_of allowance s) refl
  where
    go : (x : Result ℕ NotAccepted) → checked_of allowance s ≡ x → (let p = begin_of allowance s in p.at + p.count * record_bytes p.format ≤ length s)
    go (Ok n) e = let (f, at, count, is) = begins allowance s e in ends allowance s is
    go (Err err) e = rw e (omega arith)
