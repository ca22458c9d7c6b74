-- What reading a record and writing one add up to.
use Rattle.std.specs.Prelude.{Ok}
use Rattle.std.specs.Prelude.{ℕ, ◌≤◌, ◌≡◌, List, ◌++◌, length, take, drop}
use Rattle.std.proofs.Common.{ap, sym, ◌∙◌}
use Rattle.le.specs.Le.{Bytes}
use Rattle.format.specs.declared.Format.{Format}
use Rattle.format.specs.declared.Field.TheVariants.{ExtraBytes}
use Rattle.format.specs.Fields.{record_bytes}
use Rattle.point.specs.declared.Point.{Point}
use Rattle.point.specs.Read.{field_of, point_of, read_of, extra_of}
use Rattle.point_write.specs.Write.{record_of, written_of}
use Rattle.point_write.specs.Back.{record_back}
use Rattle.point_write.specs.Answered.{Answered, answered, answered_written}
use Rattle.point_write.specs.Past.{point_take, read_take}
use Rattle.point_write.specs.Held.{Held, shown_in}
use Rattle.point_write.specs.Found.{point_found}
use Rattle.point_write.specs.Again.{point_again, extra_again, shown_record}
use Rattle.point_write.specs.Accepted.{accepted_again}

module _ (f : Format) (s : List ℕ) where
  -- "What a reader answers, written back, is the bytes read", in every format: a NaN's bits, NIR 0 and the extra bytes too.
  pub read_then_written : Bytes s → record_bytes f ≤ length s → record_of f (point_of f s) (field_of f ExtraBytes s) ≡ take (record_bytes f) s
  read_then_written all h = record_back s all f h

  -- The same of the functions: what `read_from` and `extra_bytes` answer, `write_to` does not refuse where there is room, and it leaves the bytes read.
  pub answer_then_written : Bytes s → (p : Point) → read_of f s ≡ Ok p → (d : List ℕ) → record_bytes f ≤ length d → written_of f p (extra_of f s) d ≡ (Ok (record_bytes f), take (record_bytes f) s ++ drop (record_bytes f) d)
  answer_then_written all p r d h =
      let a : Answered f s p = answered f s p r in
      answered_written f s p a d h
      ∙ ap (λ (l : List ℕ). (Ok (record_bytes f), l ++ drop (record_bytes f) d)) (read_then_written all a.room)

  -- "The reader never looks past the record's length", for the point, for a read with its refusals and for the extra bytes.
  pub never_past : Bytes s → (n : ℕ) → record_bytes f ≤ n → point_of f (take n s) ≡ point_of f s
  never_past = point_take f s

  pub read_never_past : Bytes s → read_of f (take (record_bytes f) s) ≡ read_of f s
  read_never_past all = (read_take f s all).0

  pub extra_never_past : Bytes s → extra_of f (take (record_bytes f) s) ≡ extra_of f s
  extra_never_past all = (read_take f s all).1

-- So lists that agree on the record's bytes read alike.
pub read_alike : (f : Format) (s t : List ℕ) → Bytes s → Bytes t → take (record_bytes f) s ≡ take (record_bytes f) t → read_of f s ≡ read_of f t
read_alike f s t one other e = sym (read_never_past f s one) ∙ ap (read_of f) e ∙ read_never_past f t other

-- Every point that is read is one that the format can hold, so the next holds of it.
pub read_is_held : (f : Format) (s : List ℕ) → Bytes s → record_bytes f ≤ length s → Held f (point_of f s) (field_of f ExtraBytes s)
read_is_held f s all h = point_found s all f h

-- "What is written, read again, is the value", for a point that the format can hold.
module _ (f : Format) (p : Point) (e : List ℕ) (held : Held f p e) where
  -- The record itself, whatever stands after it.
  pub written_then_read : (rest : List ℕ) → point_of f (record_of f p e ++ rest) ≡ p
  written_then_read = point_again f p e held

  pub extra-written_then_read : (rest : List ℕ) → field_of f ExtraBytes (record_of f p e ++ rest) ≡ e
  extra-written_then_read = extra_again f p e held

  -- The same of the functions: where `write_to` does not refuse, `read_from` and `extra_bytes` answer what was written.
  pub written_then_answered : (n : ℕ) (d left : List ℕ) → written_of f p e d ≡ (Ok n, left) → (read_of f left ≡ Ok p) × (extra_of f left ≡ e)
  written_then_answered = accepted_again f p e held

-- "On writing, a missing .. NIR .. is zero bits", and document 02, No. 5, shows these as 0: a point without near infrared, written into a
-- format that has it, is read again with 0 there, and as itself in all else.
module _ (f : Format) (p : Point) (e : List ℕ) (held : Held f (shown_in f p) e) (rest : List ℕ) where
  pub missing_then_zero : point_of f (record_of f p e ++ rest) ≡ shown_in f p
  missing_then_zero = ap (λ (l : List ℕ). point_of f (l ++ rest)) (shown_record f p e) ∙ written_then_read f (shown_in f p) e held rest

  pub extra-beside_missing : field_of f ExtraBytes (record_of f p e ++ rest) ≡ e
  extra-beside_missing =
      ap (λ (l : List ℕ). field_of f ExtraBytes (l ++ rest)) (shown_record f p e)
      ∙ extra-written_then_read f (shown_in f p) e held rest
