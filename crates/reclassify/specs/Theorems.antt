-- What setting the class of one point comes to: document 02, No. 13, "Reclassify one point".
use Rattle.std.specs.Prelude.{Result, Ok, Err}
use Rattle.rules.specs.NotAccepted.{not_accepted}
use Rattle.refusal.specs.Refused.{at_record}
use Rattle.refusal.specs.declared.Refused.{Refused}
use Rattle.std.specs.Prelude.{ℕ, suc, ◌+◌, ◌-◌, ◌≤◌, ◌<◌, ◌≡◌, false, ◌⊎◌, ◌↔◌, List}
use Rattle.std.proofs.Common.{ap, sym, subst, ◌∙◌, arith}
use Rattle.std.specs.Borrow.{Bor}
use Rattle.refusal.specs.declared.Refusal.{Refusal}
use Rattle.refusal.specs.declared.Refusal.TheVariants.{Index, Class}
use Rattle.le.specs.Le.{Bytes}
use Rattle.store.specs.Elsewhere.{Elsewhere}
use Rattle.flags.specs.Readings.{class_of}
use Rattle.flags.specs.Class.{SameButClass, class-set, class-only}
use Rattle.point.specs.declared.Point.{Point}
use Rattle.point.specs.Class.{reclassed, flags_with}
use Rattle.outline.specs.declared.Outline.{Outline}
use Rattle.file.specs.Rules.{checked_of}
use Rattle.cursor.specs.Parts.{outline_in, parts_of, bytes_of, Each}
use Rattle.cursor.specs.Kept.{is_points}
use Rattle.walker.specs.Begin.{walker_of}
use Rattle.walker.specs.Steps.{answer_of}
use Rattle.reclassify.specs.Reclassify.{is_extended, record_at, reclassified_of}
use Rattle.reclassify.specs.Afresh.{afresh_of}
use Rattle.reclassify.specs.Laws.{class_at, Applies, applies_done, done_applies, class-was, left_alone, by_file, by_index, by_class}
use Rattle.reclassify.specs.Kept as kept
use Rattle.reclassify.specs.Back.{class_back}
use Rattle.reclassify.specs.Readings as readings

module _ (allowance point class : ℕ) where
  -- the answer, and the file that is left
  abbrev reclassified : List ℕ → Result ℕ Refused × List ℕ
  reclassified s = reclassified_of allowance point class s

  module _ (s : List ℕ) where
    abbrev o : Outline
    o = outline_in s

    -- "Set the class of one point in an accepted file": it is set exactly where the file is accepted and has the point, and a format of 0 to 5
    -- has room for the class.
    pub exactly : ((w : ℕ) × ((reclassified s).0 ≡ Ok w)) ↔ Applies allowance point class s
    exactly = (λ (w, was). done_applies allowance point class s was, λ d. (_, ap (λ (x : Result ℕ Refused × List ℕ). x.0) (applies_done allowance point class s d)))

    -- "Refusals, in order: file check;
    pub refused_file : {r : Refusal} {k n : ℕ} → checked_of allowance s ≡ Err (not_accepted r k n) → reclassified s ≡ (Err (at_record r k), s)
    refused_file = by_file allowance point class s

    module _ {n : ℕ} (accepted : checked_of allowance s ≡ Ok n) where
      -- index;
      pub refused_index : (point ≡ 0) ⊎ (o.number_of_point_records < point) → reclassified s ≡ (Err (at_record (Index o.number_of_point_records) 0), s)
      refused_index = by_index allowance point class s accepted

      -- class above 31 in formats 0 to 5."
      pub refused-class : 0 < point → point ≤ o.number_of_point_records → is_extended o ≡ false → 31 < class → reclassified s ≡ (Err (at_record (Class class) 0), s)
      refused-class = by_class allowance point class s accepted

    -- A refusal leaves the file as it was.
    pub untouched : ((w : ℕ) → (reclassified s).0 ≡ Ok w → ⊥) → (reclassified s).1 ≡ s
    untouched = left_alone allowance point class s

  -- Where it is set; the file is of bytes, as the type has it.
  module _ (s : List ℕ) (w : ℕ) (set : (reclassified s).0 ≡ Ok w) (bytes : Bytes s) where
    d : Applies allowance point class s
    d = done_applies allowance point class s set

    left : (reclassified s).1 ≡ kept.after allowance point class s d
    left = ap (λ (x : Result ℕ Refused × List ℕ). x.1) (applies_done allowance point class s d)

    -- "The state after equals reading everything, changing that one class and writing afresh, but an EVLR pair with one zero stays as it is";
    -- a class is a byte.
    pub afresh : class < 256 → (reclassified s).1 ≡ afresh_of point class s
    afresh byte = left ∙ sym (kept.afresh allowance point class s d bytes byte)

    -- "every other byte" is the same: all but one of the point's own record.
    pub one_byte : Elsewhere (class_at point s) 1 s (reclassified s).1 × (record_at (outline_in s) point ≤ class_at point s) × (class_at point s < record_at (outline_in s) point + (outline_in s).point_data_record_length)
    one_byte = (subst (Elsewhere (class_at point s) 1 s) (sym left) (kept.one_byte allowance point class s d bytes), omega arith, omega (arith, kept.inside allowance point class s d bytes))

    -- "every part" is the same, and each but the points in its bytes; and so is what the file check answers.
    pub same_parts : (parts_of (outline_in (reclassified s).1) (reclassified s).1 ≡ parts_of (outline_in s) s) × Each (λ p. is_points p.kind ≡ false → bytes_of (reclassified s).1 p ≡ bytes_of s p) (parts_of (outline_in s) s)
    same_parts =
        subst (λ (t : List ℕ). (parts_of (outline_in t) t ≡ parts_of (outline_in s) s) × Each (λ p. is_points p.kind ≡ false → bytes_of t p ≡ bytes_of s p) (parts_of (outline_in s) s)) (sym left)
        (kept.same_parts allowance point class s d bytes, kept.other-parts allowance point class s d bytes)

    pub same_check : checked_of allowance (reclassified s).1 ≡ checked_of allowance s
    same_check = ap (checked_of allowance) left ∙ kept.same_check allowance point class s d bytes ∙ sym d.accepted

    -- The class that is answered, set again, gives the file back.
    pub back : reclassified_of allowance point w (reclassified s).1 ≡ (Ok class, s)
    back =
        ap (reclassified_of allowance point w) left
        ∙ ap (λ (k : ℕ). reclassified_of allowance point k (kept.after allowance point class s d)) (sym (class-was allowance point class s d set))
        ∙ class_back allowance point class s d bytes

  -- The readings of the file before and after, as the walker gives them, counted from 0.
  module _ (old new : Bor (List ℕ)) (w : ℕ) (set : (reclassified old.now).0 ≡ Ok w) (bytes : Bytes old.now) (byte : class < 256) (is : new.now ≡ (reclassified old.now).1) where
    e : Applies allowance point class old.now
    e = d old.now w set bytes

    same : new.now ≡ kept.after allowance point class old.now e
    same = is ∙ left old.now w set bytes

    -- "every other point's readings .. are the same", and so is what the walker answers after the last.
    pub other-points : (k : ℕ) → (suc k ≡ point → ⊥) → answer_of k (walker_of allowance new) ≡ answer_of k (walker_of allowance old)
    other-points = readings.other-same allowance point class old new e bytes byte same

    -- This point is the one that it was, but for its class;
    module _ (x : Point) (read : answer_of (point - 1) (walker_of allowance old) ≡ Ok x) where
      pub this_point : answer_of (point - 1) (walker_of allowance new) ≡ Ok (reclassed class x)
      this_point = readings.this_point allowance point class old new e bytes byte same x read

      -- which is the one that was asked for, where it was the one that is answered,
      pub class-told : (class_of (reclassed class x).flags ≡ class) × (class_of x.flags ≡ w)
      class-told = (
        ap class_of (flags_with class x) ∙ class-set class x.flags (readings.room_for allowance point class old new e bytes byte same x read),
        readings.class-was allowance point class old new e bytes byte same x read ∙ class-was allowance point class old.now e set,
      )

      -- "including this point's three flags in the old class byte".
      pub flags_kept : SameButClass x.flags (reclassed class x).flags
      flags_kept = subst (SameButClass x.flags) (sym (flags_with class x)) (class-only class x.flags (readings.room_for allowance point class old new e bytes byte same x read))
