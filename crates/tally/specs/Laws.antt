-- Laws of the counts: how large they are, which bytes they depend on, and when they are told.
use Rattle.refusal.specs.declared.Refusal.{Refusal}
use Rattle.point.specs.declared.marks.Marks.{Marks}
use Rattle.point.specs.declared.Point.{Point}
use Prim.Native.Nat.{ℕ, zero, suc, ◌-◌, ◌*◌, ◌≤◌}
use Rattle.std.proofs.Math.Path.{◌≡◌, refl, ap}
use Rattle.std.proofs.Common.{◌∙◌, take-take}
use Rattle.std.specs.Prelude.{Bool, List, ◌↔◌, eqb, take, drop, Result, Ok, Err}
use Rattle.std.proofs.Math.Bool.{true, false, cond}
use Rattle.std.proofs.Math.Nat.{suc-mul}
use native.Mathlib.Omega.{arith}
use borrow.Author.Tests.{le-ltb, ltb-false}
use Rattle.std.proofs.Math.Dec.{ltb}
use Rattle.std.proofs.Math.ListN.{length}
use Rattle.refusal.specs.declared.Refusal.TheVariants.{Short}
use Rattle.refusal.specs.Table.{wanted_of}
use Rattle.le.specs.Laws.{drop-take}
use Rattle.format.specs.declared.Format.{Format}
use Rattle.format.specs.Fields.{record_bytes, len_of}
use Rattle.format.specs.Laws.{when-le}
use Rattle.format.specs.Length as format
use Rattle.format.specs.Length.{Told, told, len-told}
use Rattle.point.specs.Marks.{marks_read}
use Rattle.flags.specs.Readings.{return_number_of}
use Rattle.tally.specs.declared.ByReturn.{ByReturn}
use Rattle.tally.specs.Tally.{return_by, return_in, count_of, by_return, tally_by, tally_of}

-- a record's marks tell its return number
abbrev pub return_marked : Result Marks Refusal → ℕ
return_marked (Ok m) = return_number_of m.flags
return_marked (Err r) = 0

pub marks_tell : (x : Result Point Refusal) → return_marked (marks_read x) ≡ return_by x
marks_tell (Ok p) = refl
marks_tell (Err r) = refl

module _ (f : Format) (r : ℕ) where
  -- no more records have a return number than there are
  pub count_most : (n : ℕ) (s : List ℕ) → count_of f r n s ≤ n
  unfolding count_of
  count_most zero s = omega arith
  count_most (suc n) s =
      omega (arith, when-le (eqb (return_in f (take (record_bytes f) s)) r) 1, count_most n (drop (record_bytes f) s))

  -- and only the bytes of the records count
  pub count-first : (n : ℕ) (s : List ℕ) → count_of f r n (take (n * record_bytes f) s) ≡ count_of f r n s
  unfolding count_of
  count-first zero s = refl
  count-first (suc n) s =
      let e : suc n * record_bytes f - record_bytes f ≡ n * record_bytes f = rw suc-mul (omega arith) in
      rw (take-take (record_bytes f) (suc n * record_bytes f) s (rw suc-mul (omega arith)), drop-take (record_bytes f) (suc n * record_bytes f) s, e, count-first n (drop (record_bytes f) s))

-- each of five counts is at most n
pub record Most (n : ℕ) (x : ByReturn) : Type 0 where
  pub first : x.first ≤ n
  pub second : x.second ≤ n
  pub third : x.third ≤ n
  pub fourth : x.fourth ≤ n
  pub fifth : x.fifth ≤ n

module _ (f : Format) (n : ℕ) (s : List ℕ) where
  pub by_return_first : by_return f n (take (n * record_bytes f) s) ≡ by_return f n s
  unfolding by_return
  by_return_first = λ i. record {
    first = count-first f 1 n s i;
    second = count-first f 2 n s i;
    third = count-first f 3 n s i;
    fourth = count-first f 4 n s i;
    fifth = count-first f 5 n s i;
  }

  pub by_return_most : Most n (by_return f n s)
  unfolding by_return
  by_return_most = record { first = count_most f 1 n s; second = count_most f 2 n s; third = count_most f 3 n s; fourth = count_most f 4 n s; fifth = count_most f 5 n s }

  -- where the format's length is told, the records are counted exactly when they are all there
  pub tally_told : (m : ℕ) → len_of f ≡ Ok m → tally_of f n s ≡ cond (ltb (length s) (n * m)) (Err (Short (wanted_of (n * m)))) (Ok (by_return f n s))
  unfolding tally_of
  tally_told m e = ap (λ (l : Result ℕ Refusal). tally_by l f n s) e

  -- the counts are told exactly where the format is not overlong and n records are there
  pub tally_is : {x : ByReturn} → (tally_of f n s ≡ Ok x) ↔ ((record_bytes f ≤ 65535) × (n * record_bytes f ≤ length s) × (x ≡ by_return f n s))
  unfolding tally_of
  tally_is {x} = (
    go (told f),
    λ (fits, there, e). tally_told (record_bytes f) (len-told f fits) ∙ rw (le-ltb (length s) (n * record_bytes f) there, e),
  )
    where
      sized : record_bytes f ≤ 65535 → (b : Bool) → ltb (length s) (n * record_bytes f) ≡ b → cond b (Err (Short (wanted_of (n * record_bytes f)))) (Ok (by_return f n s)) ≡ Ok x → (record_bytes f ≤ 65535) × (n * record_bytes f ≤ length s) × (x ≡ by_return f n s)
      sized h true t e = let z : ◌≡◌ {A = ℕ} 0 1 = cc in absurd (omega arith)
      sized h false t e = (h, ltb-false _ _ t, cc)

      go : {l : Result ℕ Refusal} → Told f l → tally_by l f n s ≡ Ok x → (record_bytes f ≤ 65535) × (n * record_bytes f ≤ length s) × (x ≡ by_return f n s)
      go (format.fits h) e = sized h (ltb (length s) (n * record_bytes f)) refl e
      go (format.over h) e = let z : ◌≡◌ {A = ℕ} 0 1 = cc in absurd (omega arith)
