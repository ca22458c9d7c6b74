-- Laws of the points of a file while records are added to it, as its walker gives them.
use Rattle.std.specs.Prelude.{Ok, Err}
use Rattle.refusal.specs.Refused.{at_record}
use Rattle.std.specs.Prelude.{ℕ, ◌+◌, ◌*◌, ◌≤◌, ◌<◌, ◌≡◌, refl, Bool, true, false, List, ltb, take, drop}
use Rattle.std.proofs.Common.{sym, ap, ◌∙◌, inl, inr, add-mul, arith, ltb-true, ltb-false, drop-drop}
use Rattle.std.specs.Borrow.{Bor}
use Rattle.refusal.specs.declared.Refusal.TheVariants.{Index}
use Rattle.le.specs.Le.{Bytes}
use Rattle.fields.specs.Table.{part}
use Rattle.store.specs.Elsewhere.{Elsewhere}
use Rattle.header.specs.Judged.{header_in}
use Rattle.outline.specs.declared.Outline.{Outline}
use Rattle.outline.specs.Outline.{outline_of, counting}
use Rattle.file.specs.Rules.{checked_of}
use Rattle.file.specs.Points.{point_format}
use Rattle.file.specs.Kept.{same-part}
use Rattle.offer.specs.declared.Sweep.{Sweep}
use Rattle.offer.specs.Offer.{record_length, end_in}
use Rattle.offer.specs.Laws.{Adds}
use Rattle.append.specs.Adding.{holds, size-wide, free_front, free_header, free_accepted}
use Rattle.append.specs.Final.{Bounds, full, full-grown, full_outline, full-accepted}
use Rattle.append.specs.Points.{point_in, SamePoint, PointOf, OldPoints, OldThenNew, nth_at, record_within, point_there, none_behind}

module _ (a : ℕ) (records : List ℕ) (n believed : ℕ) (old : Bor (List ℕ)) (w : Sweep) (d : Adds a records n believed old.now w) (old-bytes : Bytes old.now) where
  abbrev o : Outline
  o = outline_of (header_in old.now)

  abbrev size : ℕ
  size = record_length (header_in old.now)

  abbrev end : ℕ
  end = end_in (header_in old.now)

  old_says : outline_of (header_in old.now) ≡ counting believed o
  old_says = ap (λ (c : ℕ). counting c o) d.count

  -- the old points lie before their end
  old-within : (i : ℕ) → i < believed → nth_at o i + size ≤ end
  old-within i h = omega (arith, record_within i believed size h, ap (λ (c : ℕ). c * size) d.count)

  module _ (new : Bor (List ℕ)) (bytes : Bytes new.now) where
    -- an accepted file with the same bytes there has them
    same_point : (points : ℕ) → checked_of a new.now ≡ Ok d.proper.found → outline_of (header_in new.now) ≡ counting points o → (i : ℕ) → i < believed → i < points → part size (nth_at o i) new.now ≡ part size (nth_at o i) old.now → SamePoint a new old i
    same_point points accepted says i before within same =
        let x = point_there a new accepted bytes points o says i (part size (nth_at o i) old.now) within same in
        let y = point_there a old d.proper.accepted old-bytes believed o old_says i (part size (nth_at o i) old.now) before refl in
        (x.0 ∙ sym y.0, x.1 ∙ sym y.1)

    -- where it differs only where the new records go, its points are exactly the old ones
    module _ (e : Elsewhere w.at w.bytes old.now new.now) where
      accepted_still : checked_of a new.now ≡ Ok d.proper.found
      accepted_still = free_accepted a records n believed old.now w d new.now e.long e.front

      says_still : outline_of (header_in new.now) ≡ counting believed o
      says_still = ap outline_of (free_header a records n believed old.now w d new.now e.long e.front) ∙ old_says

      still_there : (i : ℕ) → i < believed → SamePoint a new old i
      still_there i h =
          same_point believed accepted_still says_still i h h
          (same-part end old.now new.now (free_front a records n believed old.now w d new.now e.long e.front) size (nth_at o i) (old-within i h))

      answers_still : (i : ℕ) → point_in a new i ≡ point_in a old i
      answers_still i = go (ltb i believed) refl
        where
          go : (t : Bool) → ltb i believed ≡ t → point_in a new i ≡ point_in a old i
          go true lt = (still_there i (ltb-true i believed lt)).0
          go false ge =
              let h = ltb-false i believed ge in
              none_behind a new accepted_still bytes believed o says_still i h ∙ sym (none_behind a old d.proper.accepted old-bytes believed o old_says i h)

      pub same_points : OldPoints a believed old new
      same_points = record { answers = answers_still; records = λ i h. (still_there i h).1 }

    -- after the last store they are exactly the old and then the new
    module _ (bounds : List ℕ) (b : Bounds bounds) (is : new.now ≡ full a records n believed old.now w d bounds b) where
      abbrev done : List ℕ
      done = full a records n believed old.now w d bounds b

      accepted_then : checked_of a new.now ≡ Ok d.proper.found
      accepted_then = ap (checked_of a) is ∙ full-accepted a records n believed old.now w d bounds b

      says_then : outline_of (header_in new.now) ≡ counting (believed + n) o
      says_then = ap (λ (l : List ℕ). outline_of (header_in l)) is ∙ full_outline a records n believed old.now w d bounds b

      old-first : (i : ℕ) → i < believed → SamePoint a new old i
      old-first i h =
          let behind : 227 ≤ nth_at o i = omega (arith, size-wide a records n believed old.now w d, (holds a records n believed old.now w d).parts.offset_after_header) in
          same_point (believed + n) accepted_then says_then i h (omega arith)
          (ap (part size (nth_at o i)) is ∙ (full-grown a records n believed old.now w d bounds b).others size (nth_at o i) (inr (inr behind)) (inl (old-within i h)))

      new_then : (j : ℕ) → j < n → PointOf a new (believed + j) (point_format o) (part size (j * size) records)
      new_then j h =
          let place : nth_at o (believed + j) ≡ end + j * size = omega (arith, add-mul believed j size, ap (λ (c : ℕ). c * size) d.count) in
          point_there a new accepted_then bytes (believed + n) o says_then (believed + j) (part size (j * size) records) (omega arith)
          (ap (part size (nth_at o (believed + j))) is ∙ ap (λ (p : ℕ). part size p done) place ∙ ap (take size) (sym (drop-drop (j * size) end done))
          ∙ same-part (n * size) records (drop end done) (full-grown a records n believed old.now w d bounds b).there size (j * size) (record_within j n size h))

      then_none : (i : ℕ) → believed + n ≤ i → point_in a new i ≡ Err (at_record (Index (believed + n)) 0)
      then_none i h = none_behind a new accepted_then bytes (believed + n) o says_then i h

      pub more_points : OldThenNew a believed old new (point_format o) size records n
      more_points = record { first = old-first; next = new_then; last = then_none }
