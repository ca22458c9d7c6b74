-- What a writer leaves of what a reader answers, where there is room: what stands for the part, and the rest as it was.
use Rattle.std.specs.Prelude.{Result, Ok}
use Rattle.refusal.specs.declared.Refusal.{Refusal}
use Prim.Native.Nat.{ℕ, ◌≤◌}
use mathlib.Core.Path.{◌≡◌, refl, ap, sym, ◌∙◌}
use mathlib.Core.Bool.{Bool}
use mathlib.Core.List.{List, ◌++◌}
use lib.ListN.{length, drop}
use lib.Seq.{take-length}
use native.Mathlib.Omega.{arith}
use Rattle.le.specs.Le.{Bytes}
use Rattle.lent.specs.Front.{front_of}
use Rattle.lent.specs.Laws.{front}
use Rattle.format.specs.declared.Format.{Format}
use Rattle.format.specs.Fields.{record_bytes}
use Rattle.format.specs.Laws.{len_is}
use Rattle.point.specs.declared.Point.{Point}
use Rattle.point.specs.Read as point
use Rattle.point_write.specs.Write.{written_of}
use Rattle.point_write.specs.Theorems.{answer_then_written}
use Rattle.vlr.specs.declared.Vlr.{Vlr}
use Rattle.vlr.specs.Vlr as vlr
use Rattle.vlr.specs.Theorems as vlr-theorems
use Rattle.header.specs.Judged as header
use Rattle.header_write.specs.Wrote.{wrote_of}
use Rattle.header_write.specs.Theorems as header-theorems
use Rattle.rewrite.specs.Back.{header_back, vlr_back, point_back}
use Rattle.rewrite.specs.Asked.{HeaderPart, VlrPart, PointPart}
use Rattle.rewrite.specs.Laws.{vlr_same, point_same}

module _ (s d : List ℕ) {ys : List ℕ} {r : Result ℕ Refusal} (room : length s ≤ length d) where
  pub header_laid : HeaderPart s → Bytes s → (r, ys) ≡ wrote_of (header.header_in s) (header.padding_of s) d → ys ≡ header_back s ++ drop (length s) d
  unfolding header_back
  header_laid whole bytes e = ap (λ (p : Result ℕ Refusal × List ℕ). p.1) (e ∙ header-theorems.written_back s bytes whole.1 d refl room)

  pub vlr_laid : (extended : Bool) {v : Vlr} → VlrPart extended s → Bytes s → vlr.read_of extended s ≡ Ok v → (r, ys) ≡ vlr.written_of v (vlr.data_of extended s) d → ys ≡ vlr_back extended s ++ drop (length s) d
  vlr_laid extended whole bytes is e =
      ap (λ (p : Result ℕ Refusal × List ℕ). p.1) (e ∙ vlr-theorems.written_back extended s d bytes whole is ∙ ap (λ (l : List ℕ). front_of l d) (take-length s) ∙ front s d room)
      ∙ ap (λ (l : List ℕ). l ++ drop (length s) d) (sym (vlr_same extended s whole bytes))

  pub point_laid : (f : Format) {p : Point} → PointPart f s → Bytes s → point.read_of f s ≡ Ok p → (r, ys) ≡ written_of f p (point.extra_of f s) d → ys ≡ point_back f s ++ drop (length s) d
  point_laid f {p} whole bytes is e =
      let size : record_bytes f ≡ length s = sym (len_is f (length s) whole) in
      ap (λ (q : Result ℕ Refusal × List ℕ). q.1) (e ∙ answer_then_written f s bytes p is d (omega arith))
      ∙ rw (size, take-length s, point_same f s whole bytes)
