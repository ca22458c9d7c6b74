-- What a read answers is written: the bytes of the record's point and its extra bytes, at the front.
use Rattle.std.specs.Prelude.{Ok}
use Rattle.std.specs.Prelude.{ℕ, ◌≤◌, ◌≡◌, List, ◌++◌, length, drop}
use Rattle.std.proofs.Common.{◌∙◌}
use Rattle.format.specs.declared.Format.{Format}
use Rattle.format.specs.declared.Field.TheVariants.{ExtraBytes}
use Rattle.format.specs.Fields.{record_bytes}
use Rattle.point.specs.declared.Point.{Point}
use Rattle.point.specs.Read.{field_of, point_of, extra_of}
pub use Rattle.point.specs.Answer.{Answered, answered, extra-length}
use Rattle.point_write.specs.Write.{record_of, written_of}
use Rattle.point_write.specs.Taken.{taken-written, read_taken}

pub answered_written : (f : Format) (s : List ℕ) (p : Point) → Answered f s p → (d : List ℕ) → record_bytes f ≤ length d → written_of f p (extra_of f s) d ≡ (Ok (record_bytes f), record_of f (point_of f s) (field_of f ExtraBytes s) ++ drop (record_bytes f) d)
answered_written f s p a d h =
    (λ i. written_of f (a.point i) (a.extra i) d) ∙ taken-written f (point_of f s) (field_of f ExtraBytes s) (read_taken f s a.room) (record_bytes f) d h a.long
