-- The points of a file whose class is set at one of them, as its walker gives them.
use Rattle.std.specs.Prelude.{Ok, Err}
use Rattle.refusal.specs.Refused.{at_record}
use Rattle.std.specs.Prelude.{ℕ, suc, ◌+◌, ◌*◌, ◌-◌, ◌≤◌, ◌<◌, ◌≡◌, refl, Bool, true, false, List, ltb, length, set, take, drop}
use Rattle.std.proofs.Common.{ap, sym, subst, ◌∙◌, suc-mul, mul-le-mul_right, arith, ltb-true, ltb-false, length-drop, length-take-le}
use Rattle.std.proofs.lemmas.List.{drop-set-add}
use Rattle.std.proofs.Math.Seq.{take-set-lt}
use Rattle.std.specs.Borrow.{Bor}
use Rattle.refusal.specs.declared.Refusal.TheVariants.{Index}
use Rattle.le.specs.Le.{num, Bytes}
use Rattle.le.specs.Laws.{num-take}
use Rattle.store.specs.Elsewhere.{same-before, same_behind}
use Rattle.format.specs.declared.Format.{Format}
use Rattle.format.specs.Fields.{record_bytes}
use Rattle.format.specs.Laws.{len_is}
use Rattle.point.specs.Read.{point_of}
use Rattle.flags.specs.Readings.{class_of}
use Rattle.flags.specs.Class.{has_three, Fits}
use Rattle.point.specs.declared.Point as point
use Rattle.point.specs.Class.{reclassed, class_place, class_in, classed, record_with, point_classed, three_flags, class_read}
use Rattle.outline.specs.declared.Outline.{Outline}
use Rattle.outline.specs.Outline.{outline_of}
use Rattle.file.specs.Rules.{checked_of}
use Rattle.file.specs.Points.{point_format}
use Rattle.cursor.specs.Parts.{outline_in}
use Rattle.walker.specs.Begin.{walker_of}
use Rattle.walker.specs.Steps.{answer_of}
use Rattle.walker.specs.Theorems.{in_turn, at_the_end}
use Rattle.reclassify.specs.Reclassify.{is_extended, record_at}
use Rattle.reclassify.specs.Laws.{class_at, Applies}
use Rattle.reclassify.specs.Points.{num_later}
use Rattle.reclassify.specs.Kept.{after, inside, one_byte, same_header, same_check, after-bytes, extended, holds, whole, ends, fewer}

module _ (a i c : ℕ) (old new : Bor (List ℕ)) (d : Applies a i c old.now) (bytes : Bytes old.now) (byte : c < 256) (is : new.now ≡ after a i c old.now d) where
  abbrev s : List ℕ
  s = old.now

  abbrev o : Outline
  o = outline_in s

  abbrev f : Format
  f = point_format o

  abbrev each : ℕ
  each = o.point_data_record_length

  abbrev count : ℕ
  count = o.number_of_point_records

  -- the record after k others
  abbrev nth : ℕ → List ℕ → List ℕ
  nth k t = take each (drop (o.offset_to_point_data + k * each) t)

  -- the new file's outline is the old one's
  outline : outline_in new.now ≡ o
  outline = ap outline_in is ∙ ap outline_of (same_header a i c s d bytes)

  -- it is accepted too
  accepted_too : checked_of a new.now ≡ Ok d.found
  accepted_too = ap (checked_of a) is ∙ same_check a i c s d bytes

  bytes_too : Bytes new.now
  bytes_too = subst Bytes (sym is) (after-bytes a i c s d bytes byte)

  -- a walker's answers, by the records
  old_point : (k : ℕ) → k < count → answer_of k (walker_of a old) ≡ Ok (point_of f (nth k s))
  old_point k h = (in_turn a old d.found d.accepted bytes k h).1

  new_point : (k : ℕ) → k < count → answer_of k (walker_of a new) ≡ Ok (point_of f (nth k (after a i c s d)))
  new_point k h =
      let inside : k < (outline_in new.now).number_of_point_records = subst (λ (u : Outline). k < u.number_of_point_records) (sym outline) h in
      (in_turn a new d.found accepted_too bytes_too k inside).1
      ∙ λ j. Ok (point_of (point_format (outline j)) (take (outline j).point_data_record_length (drop ((outline j).offset_to_point_data + k * (outline j).point_data_record_length) (is j))))

  new-end : (k : ℕ) → count ≤ k → answer_of k (walker_of a new) ≡ Err (at_record (Index count) 0)
  new-end k h =
      let past : (outline_in new.now).number_of_point_records ≤ k = subst (λ (u : Outline). u.number_of_point_records ≤ k) (sym outline) h in
      at_the_end a new d.found accepted_too bytes_too k past ∙ ap (λ (u : Outline). Err (at_record (Index u.number_of_point_records) 0)) outline

  -- another record is the same
  other_record : (k : ℕ) → (suc k ≡ i → ⊥) → nth k (after a i c s d) ≡ nth k s
  other_record k other = go (ltb k (i - 1)) refl
    where
      at : ℕ
      at = o.offset_to_point_data + k * each

      go : (b : Bool) → ltb k (i - 1) ≡ b → nth k (after a i c s d) ≡ nth k s
      go true e =
          let h : suc k ≤ i - 1 = ltb-true k (i - 1) e in
          same-before (one_byte a i c s d bytes) at each (omega (arith, suc-mul k each, mul-le-mul_right each h))
      go false e =
          let h : suc (i - 1) ≤ k = omega (arith, ltb-false k (i - 1) e, d.some, other) in
          ap (take each) (same_behind (one_byte a i c s d bytes) at (omega (arith, suc-mul (i - 1) each, mul-le-mul_right each h, inside a i c s d bytes)))

  pub other-same : (k : ℕ) → (suc k ≡ i → ⊥) → answer_of k (walker_of a new) ≡ answer_of k (walker_of a old)
  other-same k other = go (ltb k count) refl
    where
      go : (b : Bool) → ltb k count ≡ b → answer_of k (walker_of a new) ≡ answer_of k (walker_of a old)
      go true e = let h = ltb-true k count e in new_point k h ∙ ap (λ (l : List ℕ). Ok (point_of f l)) (other_record k other) ∙ sym (old_point k h)
      go false e = let h = ltb-false k count e in new-end k h ∙ sym (at_the_end a old d.found d.accepted bytes k h)

  -- and this one has its class
  this_record : nth (i - 1) (after a i c s d) ≡ record_with f (nth (i - 1) s) c
  this_record =
      let r = record_at o i in
      let e = is_extended o in
      let b = classed e c (num 1 (class_at i s) s) in
      let within = inside a i c s d bytes in
      let was : num 1 (class_at i s) s ≡ num 1 (class_place e) (nth (i - 1) s) = sym (num-take 1 (class_place e) (drop r s) each (omega arith) ∙ num_later r (class_place e) s) in
      ap (take each) (drop-set-add r s (class_place e) b) ∙ take-set-lt each (drop r s) (class_place e) b within
      ∙ ap (λ (n : ℕ). set (nth (i - 1) s) (class_place e) (classed e c n)) was
      ∙ ap (λ (x : Bool). set (nth (i - 1) s) (class_place x) (classed x c (num 1 (class_place x) (nth (i - 1) s)))) (sym (extended a i c s d))

  pub this_with : answer_of (i - 1) (walker_of a new) ≡ Ok (reclassed c (point_of f (nth (i - 1) s)))
  this_with =
      let r = record_at o i in
      let fewer' = fewer a i c s d in
      let room : each ≤ length (drop r s) = rw length-drop (omega (arith, ends a i c s d bytes, (holds a i c s d).parts.points-within)) in
      let long : record_bytes f ≤ length (nth (i - 1) s) = omega (arith, length-take-le each (drop r s) room, len_is f each (whole a i c s d bytes)) in
      new_point (i - 1) fewer' ∙ ap (λ (l : List ℕ). Ok (point_of f l)) this_record ∙ ap Ok (point_classed f (nth (i - 1) s) c long)

  -- the old one, as it was read, with the class
  module _ (x : point.Point) (read : answer_of (i - 1) (walker_of a old) ≡ Ok x) where
    is_read : point_of f (nth (i - 1) s) ≡ x
    is_read = let e : Ok (point_of f (nth (i - 1) s)) ≡ Ok x = sym (old_point (i - 1) (fewer a i c s d)) ∙ read in cc

    pub this_point : answer_of (i - 1) (walker_of a new) ≡ Ok (reclassed c x)
    this_point = this_with ∙ ap (λ (p : point.Point). Ok (reclassed c p)) is_read

    -- its flags have room for the class
    pub room_for : Fits c x.flags
    room_for two = d.fits (sym (extended a i c s d) ∙ sym (three_flags f (nth (i - 1) s)) ∙ ap (λ (p : point.Point). has_three p.flags) is_read ∙ two)

    -- and had that of its class byte
    pub class-was : class_of x.flags ≡ class_in (is_extended o) (num 1 (class_at i s) s)
    class-was =
        ap (λ (p : point.Point). class_of p.flags) (sym is_read) ∙ class_read f (nth (i - 1) s)
        ∙ ap (λ (e : Bool). class_in e (num 1 (class_place e) (nth (i - 1) s))) (extended a i c s d)
        ∙ ap (class_in (is_extended o)) (num-take 1 (class_place (is_extended o)) (drop (record_at o i) s) each (omega (arith, inside a i c s d bytes)) ∙ num_later (record_at o i) (class_place (is_extended o)) s)
