-- Document 01, "Strict conversion": what a run of records becomes, where it goes (`old_verdict` and `new_verdict` in judge/specs/Judge.antt) and
-- has room. Each record is what its reader says of its bytes, and becomes what the writer makes of that.
use Rattle.std.specs.Prelude.{Result, Ok, Err, ℕ, zero, suc, Bool, true, false, cond, List, [], ◌++◌, ltb, length, take, drop}
use Rattle.refusal.specs.Refused.{at_record}
use Rattle.refusal.specs.declared.Refused.{Refused}
use Rattle.judge.specs.declared.Run.{Run}
use Rattle.refusal.specs.declared.Refusal.TheVariants.{NoRoom}
use Rattle.format.specs.declared.Field.TheVariants.{ExtraBytes}
use Rattle.point.specs.declared.Point.{Point}
use Rattle.point.specs.Read.{point_of, field_of}
use Rattle.point_write.specs.Write.{record_of}
use Rattle.strict.specs.Upgrade.{upgraded_of}
use Rattle.pairs.specs.declared.Plan.{Plan}
use Rattle.judge.specs.Judge.{old_verdict, new_verdict}

-- a point on its way down is as it is, on its way up it is upgraded
abbrev pub turned_of : Bool → Point → Point
turned_of true p = upgraded_of p
turned_of false p = p

-- the bytes that stand for the record s in the target format: its point's, and "Extra bytes are kept"
unfoldable pub image_of : Bool → Plan → List ℕ → List ℕ
image_of up p s = record_of p.target (turned_of up (point_of p.source s)) (field_of p.source ExtraBytes s)

-- "each record goes into the rest of the destination": `count` records, one after the other
unfoldable pub images_of : Bool → Plan → ℕ → List ℕ → List ℕ
images_of up p zero s = []
images_of up p (suc k) s = image_of up p (take p.source_length s) ++ images_of up p k (drop p.source_length s)

-- "If all fit, each record goes into the rest of the destination and bytes past the run stay". Document 02, No. 10: "22 now comes after the
-- record checks and only from the writing call", with the bytes needed; a refusal leaves the destination as it was
abbrev pub done_of : Bool → ℕ → List ℕ → List ℕ → Result Run Refused → Result ℕ Refused × List ℕ
done_of up count s d (Ok run) = cond (ltb (length d) run.bytes) (Err (at_record (NoRoom run.bytes) 0), d) (Ok run.bytes, images_of up run.plan count s ++ drop run.bytes d)
done_of up count s d (Err err) = (Err err, d)

-- the strict conversion, and the upgrade: "a writing call that asks it itself"
unfoldable pub to_old_of : ℕ → ℕ → ℕ → List ℕ → List ℕ → Result ℕ Refused × List ℕ
to_old_of format extra count s d = done_of false count s d (old_verdict format extra count s)

unfoldable pub to_new_of : ℕ → ℕ → ℕ → List ℕ → List ℕ → Result ℕ Refused × List ℕ
to_new_of format extra count s d = done_of true count s d (new_verdict format extra count s)
