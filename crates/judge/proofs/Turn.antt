-- One record of a run, and the rest of it: a turn of the judge.
use Rattle.std.specs.Prelude.{Result, Ok}
use Rattle.refusal.specs.declared.Refused.{Refused}
use Rattle.refusal.specs.declared.Refusal.{Refusal}
use Prim.Native.Nat.{ℕ, zero, suc, ◌+◌, ◌-◌, ◌<◌}
use mathlib.Core.Path.{◌≡◌, sym, ◌∙◌}
use mathlib.Core.List.{List}
use native.Mathlib.Omega.{arith}
use lib.ListN.{take, drop}
use lib.Seq.{drop-drop}
use Rattle.format.specs.declared.Format.{Format}
use Rattle.point.specs.Read.{point_of}
use Rattle.strict.specs.Fit.{fit_of}
use Rattle.judge.specs.Judge.{judged_by, judge_run}

module _ (f : Format) (m : ℕ) (s : List ℕ) where
  judge-step : (number at left : ℕ) → 0 < left → judge_run f m number left (drop at s) ≡ judged_by (fit_of (point_of f (take (at + m - at) (drop at s)))) number (judge_run f m (number + 1) (left - 1) (drop (at + m) s))
  unfolding judge_run
  judge-step number at zero h = absurd (omega arith)
  judge-step number at (suc k) h =
      let e : suc k - 1 ≡ k = omega arith in
      let cut : at + m - at ≡ m = omega arith in
      rw (e, cut, drop-drop m at s)

  -- `x` is what is said of the record, `w` what is to be said of the run
  pub judge_turn : (number at left : ℕ) {x : Result Unit Refusal} {w : Result Unit Refused} → 0 < left → x ≡ fit_of (point_of f (take (at + m - at) (drop at s))) → judge_run f m number left (drop at s) ≡ w → judged_by x number (judge_run f m (number + 1) (left - 1) (drop (at + m) s)) ≡ w
  judge_turn number at left h e w = rw e (sym (judge-step number at left h) ∙ w)

  -- no record is left
  pub none_left : (number : ℕ) (t : List ℕ) {w : Result Unit Refused} → judge_run f m number 0 t ≡ w → (Ok tt) ≡ w
  unfolding judge_run
  none_left number t e = e
