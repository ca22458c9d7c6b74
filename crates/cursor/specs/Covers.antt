-- Parts that are laid out as the rules say cover the file, and are what the first cursor has to tell.
use Prim.Native.Nat.{ℕ, zero, suc, ◌+◌, ◌-◌, ◌≤◌}
use Rattle.std.specs.Prelude.{◌≡◌, Bool, cond, ltb, length, drop}
use Rattle.std.proofs.Math.Path.{refl}
use Rattle.std.proofs.Common.{ap, sym, subst, arith, ltb-false, take-add, drop-drop}
use Rattle.std.proofs.Math.Bool.{true, false}
use mathlib.Core.List.{List, [], ◌∷◌, ◌++◌, append-nil}
use Rattle.std.proofs.Math.Nat.{zero-add}
use Rattle.vlr.specs.Vlr.{record_size}
use Rattle.vlr.specs.Laws.{all_there}
use Rattle.outline.specs.declared.Outline.{Outline}
use Rattle.extents.specs.Extents.{points_end}
use Rattle.rules.specs.Records.{Run}
use Rattle.cursor.specs.declared.Kind.{Kind}
use Rattle.cursor.specs.declared.Kind.TheVariants as kind
use Rattle.cursor.specs.declared.Part.{Part}
use Rattle.cursor.specs.Parts.{part, gap, between, record_parts, later_kind, later_start, body_of, parts_of, Laid, Covers, joined}
use Rattle.cursor.specs.Cursor.{plan_of, first_of, records_from, later_from, end_from, points_from, vlrs_from, left_of}
use Rattle.cursor.specs.Laws.{between-short, drop-between}

covers_both : (from mid to : ℕ) (ps qs : List Part) → Covers from mid ps → Covers mid to qs → Covers from to (ps ++ qs)
covers_both from mid to [] qs e h = subst (λ (n : ℕ). Covers n to qs) (sym e) h
covers_both from mid to (p ∷ ps) qs (e, h) h' = (e, covers_both (from + p.length) mid to ps qs h h')

pub covers_gap : (from to : ℕ) → from ≤ to → Covers from to (gap from to)
unfolding gap
covers_gap from to le = go (ltb from to) refl
  where
    go : (b : Bool) → ltb from to ≡ b → Covers from to (cond b (part kind.Gap from (to - from) ∷ []) [])
    go true e = (refl, omega arith)
    go false e = omega (arith, ltb-false from to e)

module _ (s : List ℕ) (k : Kind) (extended : Bool) where
  -- what is left after the first of some records
  others : (n at to : ℕ) → Run extended n (drop (record_size extended (between at to s)) (between at to s)) → Run extended n (between (at + record_size extended (between at to s)) to s)
  others n at to r = subst (Run extended n) (drop-between (record_size extended (between at to s)) at to s) r

  pub covers_records : (n at to : ℕ) → at ≤ to → Run extended n (between at to s) → Covers at to (record_parts k extended n at to s)
  unfolding record_parts
  covers_records zero at to le r = covers_gap at to le
  covers_records (suc n) at to le (here, r) =
      (refl, covers_records n (at + record_size extended (between at to s)) to (omega (arith, between-short at to s)) (others n at to r))

  -- what a cursor tells of records that are all there
  tells_records : (n at to : ℕ) (after : List Part) → Run extended n (between at to s) → records_from s k extended n at to after ≡ record_parts k extended n at to s ++ after
  unfolding records_from record_parts
  tells_records zero at to after r = refl
  tells_records (suc n) at to after (here, r) =
      let m = record_size extended (between at to s) in
      rw (all_there extended (between at to s) here)
      (ap (λ (ps : List Part). part k at m ∷ ps) (tells_records n (at + m) to after (others n at to r)))

points-from : (o : Outline) → o.offset_to_point_data ≤ points_end o
points-from o = omega arith

module _ (o : Outline) (s : List ℕ) (laid : Laid o s) where
  -- the parts cover the file
  pub covered : Covers 0 (length s) (parts_of o s)
  unfolding parts_of body_of
  covered =
      let points = o.offset_to_point_data in
      let start = later_start o in
      let vlrs = record_parts kind.Vlr false o.number_of_variable_length_records o.header_size points s in
      let later = record_parts (later_kind o.waveform) true o.number_of_later_records start (length s) s in
      let at-end : points + (points_end o - points) ≡ points_end o = omega (arith, points-from o) in
      let after : Covers (points_end o) (length s) (gap (points_end o) start ++ later) =
      covers_both (points_end o) start (length s) (gap (points_end o) start) later (covers_gap (points_end o) start laid.after-points)
      (covers_records s (later_kind o.waveform) true o.number_of_later_records start (length s) laid.within laid.later) in
      let before : Covers o.header_size points vlrs = covers_records s kind.Vlr false o.number_of_variable_length_records o.header_size points laid.after_header laid.vlrs in
      (refl, rw zero-add (covers_both o.header_size points (length s) vlrs (part kind.Points points (points_end o - points) ∷ (gap (points_end o) start ++ later)) before (refl, rw at-end after)))

  -- the first cursor has just these parts to tell
  pub first_tells : left_of s (first_of (plan_of o)) ≡ parts_of o s
  unfolding parts_of body_of first_of plan_of left_of vlrs_from points_from end_from later_from
  first_tells =
      let later = tells_records s (later_kind o.waveform) true o.number_of_later_records (later_start o) (length s) [] laid.later in
      rw (tells_records s kind.Vlr false o.number_of_variable_length_records o.header_size o.offset_to_point_data _ laid.vlrs, later, append-nil)

pub covers_up : (from to : ℕ) (ps : List Part) → Covers from to ps → from ≤ to
covers_up from to [] e = omega arith
covers_up from to (p ∷ ps) (e, h) = omega (arith, covers_up (from + p.length) to ps h)

-- parts that cover some bytes, joined, are these bytes
pub joined_is : (s : List ℕ) (from to : ℕ) (ps : List Part) → Covers from to ps → joined s ps ≡ between from to s
joined_is s from to [] e =
    let none : to - from ≡ 0 = omega arith in
    rw none
joined_is s from to (p ∷ ps) (e, h) =
    let split : to - from ≡ p.length + (to - (from + p.length)) = omega (arith, covers_up (from + p.length) to ps h) in
    rw (joined_is s (from + p.length) to ps h, e, split, take-add, drop-drop)
