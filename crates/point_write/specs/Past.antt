-- The reader looks at the bytes of the record and at none past them: what it finds is what was written, whatever stands after it.
use Rattle.std.specs.Prelude.{Result, Ok}
use Rattle.refusal.specs.declared.Refusal.{Refusal}
use Rattle.std.specs.Prelude.{ℕ, ◌≤◌, ◌<◌, ◌≡◌, refl, Bool, true, false, List, ◌++◌, ltb, length, take, drop}
use Rattle.std.proofs.Common.{ap, sym, ◌∙◌, arith, ltb-true, ltb-false, take-append-drop, length-take-le, take_all, take-take}
use Rattle.le.specs.Le.{Bytes}
use Rattle.format.specs.declared.Format.{Format}
use Rattle.format.specs.declared.Field.TheVariants.{ExtraBytes}
use Rattle.format.specs.Fields.{record_bytes}
use Rattle.format.specs.Length as len
use Rattle.format.specs.Length.{Told, told}
use Rattle.point.specs.Read.{field_of, point_of, read_of, extra_of}
use Rattle.point.specs.Answer.{read_whole, extra-whole, read_over, extra_over}
use Rattle.point_write.specs.Write.{record_of}
use Rattle.point_write.specs.Back.{record_back}
use Rattle.point_write.specs.Found.{point_found}
use Rattle.point_write.specs.Again.{point_again, extra_again}

module _ (f : Format) (s : List ℕ) (all : Bytes s) where
  -- a list that has the record's bytes is its record, and something
  module _ (room : record_bytes f ≤ length s) (t : List ℕ) (same : take (record_bytes f) t ≡ take (record_bytes f) s) where
    begins : t ≡ record_of f (point_of f s) (field_of f ExtraBytes s) ++ drop (record_bytes f) t
    begins = sym (take-append-drop (record_bytes f) t) ∙ ap (λ (l : List ℕ). l ++ drop (record_bytes f) t) (same ∙ sym (record_back s all f room))

    pub point_alike : point_of f t ≡ point_of f s
    point_alike = ap (point_of f) begins ∙ point_again f _ _ (point_found s all f room) (drop (record_bytes f) t)

    pub extra_alike : field_of f ExtraBytes t ≡ field_of f ExtraBytes s
    extra_alike = ap (field_of f ExtraBytes) begins ∙ extra_again f _ _ (point_found s all f room) (drop (record_bytes f) t)

  -- what is taken of a record that is there has its bytes, and of one that is short all is taken
  either : {A : Type 0} (g : List ℕ → A) (n : ℕ) → record_bytes f ≤ n → (record_bytes f ≤ length s → take (record_bytes f) (take n s) ≡ take (record_bytes f) s → g (take n s) ≡ g s) → g (take n s) ≡ g s
  either g n h p = go (ltb (length s) (record_bytes f)) refl
    where
      go : (b : Bool) → ltb (length s) (record_bytes f) ≡ b → g (take n s) ≡ g s
      go true t =
          let short : length s < record_bytes f = ltb-true _ _ t in
          ap g (take_all n s (omega arith))
      go false t = p (ltb-false _ _ t) (take-take (record_bytes f) n s h)

  pub point_take : (n : ℕ) → record_bytes f ≤ n → point_of f (take n s) ≡ point_of f s
  point_take n h = either (point_of f) n h (λ room same. point_alike room (take n s) same)

  pub read_take : (read_of f (take (record_bytes f) s) ≡ read_of f s) × (extra_of f (take (record_bytes f) s) ≡ extra_of f s)
  read_take = go (told f)
    where
      t : List ℕ
      t = take (record_bytes f) s

      go : {l : Result ℕ Refusal} → Told f l → (read_of f t ≡ read_of f s) × (extra_of f t ≡ extra_of f s)
      go (len.over h) = (read_over f t h ∙ sym (read_over f s h), extra_over f t h ∙ sym (extra_over f s h))
      go (len.fits h) = (
        either (read_of f) (record_bytes f) (omega arith) (λ room same. read_whole f t h (long room) ∙ ap Ok (point_alike room t same) ∙ sym (read_whole f s h room)),
        either (extra_of f) (record_bytes f) (omega arith) (λ room same. extra-whole f t h (long room) ∙ extra_alike room t same ∙ sym (extra-whole f s h room)),
      )
        where
          long : record_bytes f ≤ length s → record_bytes f ≤ length t
          long room = omega (arith, length-take-le (record_bytes f) s room)
