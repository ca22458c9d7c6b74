-- A write that is not refused leaves what is read again.
use Rattle.std.specs.Prelude.{Result, Ok, Err}
use Prim.Native.Nat.{ℕ, ◌≤◌, ◌<◌}
use Rattle.std.specs.Prelude.{◌≡◌, refl, Bool}
use Rattle.std.proofs.Math.Path.{ap, subst}
use Rattle.std.proofs.Common.{sym, ◌∙◌, arith}
use Rattle.std.proofs.Math.Bool.{true, false}
use mathlib.Core.List.{List, ◌++◌}
use borrow.Author.Tests.{ltb-true, ltb-false, lt-ltb, eq-eqb}
use Rattle.std.proofs.Math.Dec.{ltb}
use Rattle.std.proofs.Math.ListN.{length, drop, length-append}
use Rattle.refusal.specs.declared.Refusal.{Refusal}
use Rattle.refusal.specs.declared.Refusal.TheVariants.{NoRoom}
use Rattle.format.specs.declared.Format.{Format}
use Rattle.format.specs.Fields.{record_bytes}
use Rattle.format.specs.Length as len
use Rattle.format.specs.Length.{Told, told}
use Rattle.point.specs.declared.Point.{Point}
use Rattle.point.specs.Read.{read_of, extra_of}
use Rattle.point.specs.Answer.{read_whole, extra-whole}
use Rattle.point_write.specs.Write.{record_of, sized_of, written_after, written_of}
use Rattle.point_write.specs.Taken.{record_length_lem, taken-sized}
use Rattle.point_write.specs.Held.{Held}
use Rattle.point_write.specs.Again.{held-taken, point_again, extra_again}

module _ (f : Format) (p : Point) (e : List ℕ) (held : Held f p e) where
  -- a refusal is no count of bytes
  not-both : {A : Type 0} (r : Refusal) (n : ℕ) (d left : List ℕ) → ◌≡◌ {A = Result ℕ Refusal × List ℕ} (Err r, d) (Ok n, left) → A
  not-both r n d left w =
      let same : Err r ≡ Ok n = ap (λ (x : Result ℕ Refusal × List ℕ). x.0) w in
      let z : ◌≡◌ {A = ℕ} 0 1 = cc in
      absurd (omega arith)

  without-room : (n : ℕ) (d : List ℕ) → length d < n → sized_of f p e n d ≡ (Err (NoRoom n), d)
  unfolding sized_of
  without-room n d h = rw (eq-eqb _ _ held.extra, lt-ltb _ _ h)

  pub accepted_again : (n : ℕ) (d left : List ℕ) → written_of f p e d ≡ (Ok n, left) → (read_of f left ≡ Ok p) × (extra_of f left ≡ e)
  unfolding written_of
  accepted_again n d left = go (told f)
    where
      again : record_bytes f ≤ 65535 → (b : Bool) → ltb (length d) (record_bytes f) ≡ b → sized_of f p e (record_bytes f) d ≡ (Ok n, left) → (read_of f left ≡ Ok p) × (extra_of f left ≡ e)
      again fits true t w = not-both (NoRoom (record_bytes f)) n d left (sym (without-room (record_bytes f) d (ltb-true _ _ t)) ∙ w)
      again fits false t w =
          let s : List ℕ = record_of f p e ++ drop (record_bytes f) d in
          let is : s ≡ left = ap (λ (x : Result ℕ Refusal × List ℕ). x.1) (sym (taken-sized f p e (held-taken f p e held) (record_bytes f) d (ltb-false _ _ t)) ∙ w) in
          let long : record_bytes f ≤ length s = rw length-append (omega (arith, record_length_lem f p e (held-taken f p e held))) in
          subst (λ (l : List ℕ). (read_of f l ≡ Ok p) × (extra_of f l ≡ e)) is
          (read_whole f s fits long ∙ ap Ok (point_again f p e held (drop (record_bytes f) d)), extra-whole f s fits long ∙ extra_again f p e held (drop (record_bytes f) d))

      go : {l : Result ℕ Refusal} → Told f l → written_after f p e d l ≡ (Ok n, left) → (read_of f left ≡ Ok p) × (extra_of f left ≡ e)
      go (len.fits h) w = again h (ltb (length d) (record_bytes f)) refl w
      go (len.over h) w = not-both _ n d left w
