-- Laws of the run's records: a point that the writer takes is written, and where a run is judged to fit the writer takes each of its
-- records.
use Rattle.std.specs.Prelude.{Result, Ok, Err, ℕ, zero, suc, ◌+◌, ◌*◌, ◌≤◌, ◌≡◌, refl, Bool, true, false, length, take, drop}
use Rattle.refusal.specs.declared.Refused.{Refused}
use Rattle.refusal.specs.declared.Refusal.{Refusal}
use Rattle.std.proofs.Math.Path.{ap, sym}
use Rattle.std.proofs.Common.{◌∙◌, zero-mul, suc-mul, arith, length-append, length-drop, length-take-le}
use mathlib.Core.List.{List, ◌++◌}
use Rattle.format.specs.declared.Field.TheVariants.{ExtraBytes}
use Rattle.format.specs.Length.{len_is}
use Rattle.point.specs.declared.Point.{Point}
use Rattle.point.specs.Read.{point_of, field_of, read_of, extra_of}
use Rattle.point_write.specs.Write.{written_of}
use Rattle.point_write.specs.Taken.{Taken, record_length_lem, taken-written}
use Rattle.point.specs.Answer.{answered, extra-length}
use Rattle.strict.specs.Fit.{fit_of}
use Rattle.strict.specs.Whole.{fits-two}
use Rattle.pairs.specs.declared.Plan.{Plan}
use Rattle.pairs.specs.Sound.{Sound, same-extra, not-up}
use Rattle.judge.specs.Judge.{judged_by, judge_run, records_of}
use Rattle.convert.specs.Run.{turned_of, image_of, images_of}
use Rattle.convert.specs.Asked.{Takes, TakesRun}

-- a whole record of the source that the writer takes: its image has the target's length, and is what the writer leaves
module _ (up : Bool) (p : Plan) (sound : Sound up p) (s : List ℕ) (whole : length s ≡ p.source_length) (takes : Takes p.target (turned_of up (point_of p.source s))) where
  extra_kept : length (field_of p.source ExtraBytes s) ≡ p.target.extra_bytes
  extra_kept = extra-length p.source s (omega (arith, len_is p.source p.source_length sound.from)) ∙ same-extra up _ _ sound.mates

  taken : Taken p.target (turned_of up (point_of p.source s)) (field_of p.source ExtraBytes s)
  taken = record { flags = (λ old. fits-two _ (takes old)); extra = extra_kept }

  pub image_length : length (image_of up p s) ≡ p.target_length
  unfolding image_of
  image_length = record_length_lem p.target _ _ taken ∙ sym (len_is p.target p.target_length sound.into)

  pub image_laid : (d : List ℕ) {ys : List ℕ} {r : Result ℕ Refusal} {q : Point} → p.target_length ≤ length d → read_of p.source s ≡ Ok q → (r, ys) ≡ written_of p.target (turned_of up q) (extra_of p.source s) d → ys ≡ image_of up p s ++ drop p.target_length d
  unfolding image_of
  image_laid d {ys} {r} {q} room is e =
      let a = answered p.source s q is in
      ap (λ (w : Result ℕ Refusal × List ℕ). w.1) (rw (a.point, a.extra) at e ∙ taken-written p.target _ _ taken p.target_length d room sound.into)

-- where the records fit, the writer takes each of them
pub takes_old : (p : Plan) (number k : ℕ) (s : List ℕ) → judge_run p.source p.source_length number k s ≡ Ok tt → TakesRun false p k s
unfolding judge_run TakesRun
takes_old p number zero s e = tt
takes_old p number (suc k) s e = go (fit_of (point_of p.source (take p.source_length s))) refl e (takes_old p (number + 1) k (drop p.source_length s))
  where
    point : Point
    point = point_of p.source (take p.source_length s)

    later : Result Unit Refused
    later = judge_run p.source p.source_length (number + 1) k (drop p.source_length s)

    go : (x : Result Unit Refusal) → fit_of point ≡ x → judged_by x number later ≡ Ok tt → (later ≡ Ok tt → TakesRun false p k (drop p.source_length s)) → Takes p.target point × TakesRun false p k (drop p.source_length s)
    go (Ok _) f l rest = (λ _. f, rest l)
    go (Err r) f l rest = let z : ◌≡◌ {A = ℕ} 0 1 = cc in absurd (omega arith)

-- an extended format takes every point
pub takes_new : (p : Plan) → p.target.is_extended ≡ true → (k : ℕ) (s : List ℕ) → TakesRun true p k s
unfolding TakesRun
takes_new p t zero s = tt
takes_new p t (suc k) s = (λ f. not-up (sym f ∙ t), takes_new p t k (drop p.source_length s))

pub takes_all : (up : Bool) (p : Plan) → Sound up p → (count : ℕ) (s : List ℕ) → records_of up p count s ≡ Ok tt → TakesRun up p count s
takes_all true p sound count s e = takes_new p sound.mates.is_new count s
takes_all false p sound count s e = takes_old p 1 count s e

-- a run's images have as many bytes as its records in the target format
pub images-length : (up : Bool) (p : Plan) → Sound up p → (k : ℕ) (s : List ℕ) → TakesRun up p k s → k * p.source_length ≤ length s → length (images_of up p k s) ≡ k * p.target_length
unfolding images_of TakesRun
images-length up p sound zero s t h = rw zero-mul
images-length up p sound (suc k) s t h =
    let m = p.source_length in
    let h' : m + k * m ≤ length s = omega (arith, suc-mul k m) in
    let one = image_length up p sound (take m s) (length-take-le m s (omega arith)) t.0 in
    let rest = images-length up p sound k (drop m s) t.1 (simp length-drop (omega arith)) in
    simp length-append (omega (arith, suc-mul k p.target_length, one, rest))
