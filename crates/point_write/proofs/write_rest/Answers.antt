use Prim.Native.Nat.{ℕ, ◌≤◌}
use mathlib.Core.Path.{◌≡◌, refl, ap, ◌∙◌}
use mathlib.Core.List.{List, ◌++◌}
use native.Mathlib.Omega.{arith}
use lib.ListN.{length}
use lib.Seq.{sets}
use Rattle.fields.specs.Table.{Stored, done, store}
use Rattle.fields.specs.Laws.{then}
use Rattle.fields.specs.Total.{stored-length}
use Rattle.format.specs.declared.Field.TheVariants.{GpsTime, Color, Nir, Waveform, ExtraBytes}
use Rattle.format.specs.declared.Field.{Field}
use Rattle.format.specs.Fields.{only, rest_of, size_of, place_of, record_bytes}
use Rattle.layout.specs.Placed.{Placed, placed}
use Rattle.point_write.specs.Write.{field_bytes}
use Rattle.point_write.specs.Taken.{time_length, color_length, nir_length, waveform_length}
use Rattle.point_write.proofs.Laid.{lacking, there, fits, no_stores}
use Rattle.point_write.proofs.write_rest.Goals as goal
use Rattle.point_write.proofs.write_rest.Goals.{After-places_for-at, Joined-format, Joined-format-2, Joined-format-3, Joined-format-4, then-format, else-format, then-format-2, else-format-2, then-format-3, else-format-3, then-format-4, else-format-4}

-- Piece after piece, each at the table's place for it.
module _ (c : After-places_for-at) where
  abbrev Put : List ℕ → List Field → List ℕ → Type 0
  Put = Stored (size_of c.args.format) (place_of c.args.format) (field_bytes c.args.format c.args.point c.args.extra.now)

  at : Placed c.args.format c.places_for-at.result
  at = placed c.args.format c.places_for-at.ensures

  -- what a piece leaves is as long as what it found
  kept : {d r : List ℕ} {xs : List Field} → Put d xs r → length r ≡ length d
  kept st = stored-length (size_of c.args.format) (place_of c.args.format) _ st

  -- a piece, and then more
  and : {d r z : List ℕ} {xs ys : List Field} → Put d xs r → Put r ys z → Put d (xs ++ ys) z
  and = then (size_of c.args.format) (field_bytes c.args.format c.args.point c.args.extra.now) (place_of c.args.format)

to-time : (c : Joined-format) → Put (goal.at.Joined-format c).After-places_for-at c.args.dst.now (only c.args.format.has_gps_time GpsTime) c.if-format.dst
to-time c =
    let a = c.args in
    let long = time_length a.point.gps_time in
    elim c.if-format.branch [
      | then-format w ↦ there a.format a.point a.extra.now GpsTime long (at (goal.at.Joined-format c).After-places_for-at).time w.time_bytes.ensures w.if-format.true (w.dst-is ∙ w.put_at.ensures)
      | else-format w ↦ lacking a.format a.point a.extra.now GpsTime long w.if-format.false w.dst-is
    ]

to-color : (c : Joined-format-2) → Put (goal.at.Joined-format-2 c).After-places_for-at c.if-format.dst (only c.args.format.has_color Color) c.if-format-2.dst
to-color c =
    let a = c.args in
    let long = color_length a.point.color in
    elim c.if-format-2.branch [
      | then-format-2 w ↦ there a.format a.point a.extra.now Color long (at (goal.at.Joined-format-2 c).After-places_for-at).color w.color_bytes.ensures w.if-format-2.true (w.dst-is ∙ w.put_at-then-format-2.ensures)
      | else-format-2 w ↦ lacking a.format a.point a.extra.now Color long w.if-format-2.false w.dst-is
    ]

to-nir : (c : Joined-format-3) → Put (goal.at.Joined-format-3 c).After-places_for-at c.if-format-2.dst (only c.args.format.has_nir Nir) c.if-format-3.dst
to-nir c =
    let a = c.args in
    let long = nir_length a.point.nir in
    elim c.if-format-3.branch [
      | then-format-3 w ↦ there a.format a.point a.extra.now Nir long (at (goal.at.Joined-format-3 c).After-places_for-at).nir w.nir_bytes.ensures w.if-format-3.true (w.dst-is ∙ w.put_at-then-format-3.ensures)
      | else-format-3 w ↦ lacking a.format a.point a.extra.now Nir long w.if-format-3.false w.dst-is
    ]

to-waveform : (c : Joined-format-4) → Put (goal.at.Joined-format-4 c).After-places_for-at c.if-format-3.dst (only c.args.format.has_waveform Waveform) c.if-format-4.dst
to-waveform c =
    let a = c.args in
    let long = waveform_length a.point.waveform in
    elim c.if-format-4.branch [
      | then-format-4 w ↦ there a.format a.point a.extra.now Waveform long (at (goal.at.Joined-format-4 c).After-places_for-at).waveform w.waveform_bytes.ensures w.if-format-4.true (w.dst-is ∙ w.put_at-then-format-4.ensures)
      | else-format-4 w ↦ lacking a.format a.point a.extra.now Waveform long w.if-format-4.false w.dst-is
    ]

-- so each has room
pub put_at-requires : goal.put_at-requires
put_at-requires c =
    let a = c.args in
    let p = goal.at.put_at-requires c in
    fits a.format a.point a.extra.now GpsTime (time_length a.point.gps_time) (at p.After-places_for-at).time c.time_bytes.ensures _ c.if-format.true c.requires.1

pub put_at-requires-then-format-2 : goal.put_at-requires-then-format-2
put_at-requires-then-format-2 c =
    let a = c.args in
    let p = goal.at.put_at-requires-then-format-2 c in
    fits a.format a.point a.extra.now Color (color_length a.point.color) (at p.After-places_for-at).color c.color_bytes.ensures _ c.if-format-2.true (omega (arith, c.requires.1, kept p.After-places_for-at (to-time p.Joined-format)))

pub put_at-requires-then-format-3 : goal.put_at-requires-then-format-3
put_at-requires-then-format-3 c =
    let a = c.args in
    let p = goal.at.put_at-requires-then-format-3 c in
    fits a.format a.point a.extra.now Nir (nir_length a.point.nir) (at p.After-places_for-at).nir c.nir_bytes.ensures _ c.if-format-3.true (omega (arith, c.requires.1, kept p.After-places_for-at (to-time p.Joined-format), kept p.After-places_for-at (to-color p.Joined-format-2)))

pub put_at-requires-then-format-4 : goal.put_at-requires-then-format-4
put_at-requires-then-format-4 c =
    let a = c.args in
    let p = goal.at.put_at-requires-then-format-4 c in
    fits a.format a.point a.extra.now Waveform (waveform_length a.point.waveform) (at p.After-places_for-at).waveform c.waveform_bytes.ensures _ c.if-format-4.true (omega (arith, c.requires.1, kept p.After-places_for-at (to-time p.Joined-format), kept p.After-places_for-at (to-color p.Joined-format-2), kept p.After-places_for-at (to-nir p.Joined-format-3)))

-- the four pieces together, and the extra bytes
module _ (j : Joined-format-4) where
  abbrev p : After-places_for-at
  p = (goal.at.Joined-format-4 j).After-places_for-at

  whole : record_bytes j.args.format ≤ length j.if-format-4.dst
  whole =
      let q = goal.at.Joined-format-4 j in
      omega (arith, j.requires.1, kept p (to-time q.Joined-format), kept p (to-color q.Joined-format-2), kept p (to-nir q.Joined-format-3), kept p (to-waveform j))

  all : {r : List ℕ} → r ≡ sets j.if-format-4.dst (place_of j.args.format ExtraBytes) j.args.extra.now → Put p j.args.dst.now (rest_of j.args.format) r
  all put =
      let q = goal.at.Joined-format-4 j in
      and p (to-time q.Joined-format) (and p (to-color q.Joined-format-2) (and p (to-nir q.Joined-format-3) (and p (to-waveform j) (store put j.requires.0 done))))

pub put_at-requires-then-extra-ne0 : goal.put_at-requires-then-extra-ne0
put_at-requires-then-extra-ne0 c =
    let a = c.args in
    let p = goal.at.put_at-requires-then-extra-ne0 c in
    fits a.format a.point a.extra.now ExtraBytes c.requires.0 (at p.After-places_for-at).extra refl _ refl (whole p.Joined-format-4)

pub returns-then-extra-ne0 : goal.returns-then-extra-ne0
returns-then-extra-ne0 c =
    let p = goal.at.returns-then-extra-ne0 c in
    all p.Joined-format-4 (c.put_at-then-extra-ne0.ensures ∙ ap (λ (n : ℕ). sets c.if-format-4.dst n c.args.extra.now) (at p.After-places_for-at).extra)

pub returns-else-extra-ne0 : goal.returns-else-extra-ne0
returns-else-extra-ne0 c = all (goal.at.returns-else-extra-ne0 c).Joined-format-4 (no_stores c.if-format-4.dst _ c.args.extra.now c.if-extra-ne0.false)

pub shape_of-dst-then-extra-ne0 : goal.shape_of-dst-then-extra-ne0
shape_of-dst-then-extra-ne0 c = kept (goal.at.shape_of-dst-then-extra-ne0 c).After-places_for-at (returns-then-extra-ne0 c)

pub shape_of-dst-else-extra-ne0 : goal.shape_of-dst-else-extra-ne0
shape_of-dst-else-extra-ne0 c = kept (goal.at.shape_of-dst-else-extra-ne0 c).After-places_for-at (returns-else-extra-ne0 c)
