-- When a format's length is told: one split of `len_of`, from which the rest follows.
use Rattle.std.specs.Prelude.{Result, Ok, Err}
use Rattle.std.specs.Prelude.{ℕ, ◌≤◌, ◌<◌, ◌≡◌, Bool, cond}
use Rattle.std.proofs.Math.Path.{refl}
use Rattle.std.proofs.Math.Bool.{true, false}
use Rattle.std.proofs.Common.{arith, ltb-true, ltb-false, lt-ltb, le-ltb}
use Rattle.std.proofs.Math.Dec.{ltb}
use Rattle.refusal.specs.declared.Refusal.{Refusal}
use Rattle.refusal.specs.declared.Refusal.TheVariants.{RecordLength}
use Rattle.format.specs.declared.Format.{Format}
use Rattle.format.specs.Fields.{record_bytes, len_of}

-- the true length where it is a u16, and else refused with it
pub data Told (f : Format) : Result ℕ Refusal → Type 0 where
  fits : record_bytes f ≤ 65535 → Told f (Ok (record_bytes f))
  over : 65535 < record_bytes f → Told f (Err (RecordLength (record_bytes f)))

module _ (f : Format) where
  pub told : Told f (len_of f)
  unfolding len_of
  told = go (ltb 65535 (record_bytes f)) refl
    where
      go : (b : Bool) → ltb 65535 (record_bytes f) ≡ b → Told f (cond b (Err (RecordLength (record_bytes f))) (Ok (record_bytes f)))
      go true t = over (ltb-true _ _ t)
      go false t = fits (ltb-false _ _ t)

  pub len-told : record_bytes f ≤ 65535 → len_of f ≡ Ok (record_bytes f)
  unfolding len_of
  len-told h = rw (le-ltb 65535 (record_bytes f) h)

  pub len-refused : 65535 < record_bytes f → len_of f ≡ Err (RecordLength (record_bytes f))
  unfolding len_of
  len-refused h = rw (lt-ltb 65535 (record_bytes f) h)

  -- a length that is told is the record's, and no overlong one
  is : {l : Result ℕ Refusal} (n : ℕ) → Told f l → l ≡ Ok n → (n ≡ record_bytes f) × (record_bytes f ≤ 65535)
  is n (fits h) e = (cc, h)
  is n (over h) e = let z : ◌≡◌ {A = ℕ} 0 1 = cc in absurd (omega arith)

  pub len_is : (n : ℕ) → len_of f ≡ Ok n → n ≡ record_bytes f
  len_is n e = (is n told e).0

  pub len-le : (n : ℕ) → len_of f ≡ Ok n → record_bytes f ≤ 65535
  len-le n e = (is n told e).1

  -- and one that is refused is overlong
  pub len_over : (r : Refusal) → len_of f ≡ Err r → 65535 < record_bytes f
  len_over r = go told
    where
      go : {l : Result ℕ Refusal} → Told f l → l ≡ Err r → 65535 < record_bytes f
      go (fits h) e = let z : ◌≡◌ {A = ℕ} 0 1 = cc in absurd (omega arith)
      go (over h) e = h
