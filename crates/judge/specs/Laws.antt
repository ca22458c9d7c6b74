-- What decides of a record, and what a run is that is judged to fit.
use Rattle.std.specs.Prelude.{Result, Ok, Err, ℕ, ◌*◌, ◌≤◌, Bool, List, length}
use Rattle.refusal.specs.Refused.{at_record}
use Rattle.refusal.specs.declared.Refused.{Refused}
use Rattle.judge.specs.declared.Run.{Run}
use Rattle.point.specs.declared.marks.Marks.{Marks}
use Rattle.point.specs.declared.Point.{Point}
use Rattle.std.proofs.Math.Path.{◌≡◌, refl}
use Rattle.std.proofs.Math.Bool.{true, false, cond}
use Rattle.std.proofs.Common.{arith}
use borrow.Author.Tests.{ltb-false}
use Rattle.std.proofs.Math.Dec.{ltb}
use Rattle.refusal.specs.declared.Refusal.{Refusal}
use Rattle.point.specs.Marks.{marks_read}
use Rattle.strict.specs.Fit.{fields_fit, fit_of}
use Rattle.pairs.specs.declared.Plan.{Plan}
use Rattle.pairs.specs.Pairs.{old_pair, new_pair, planned_by}
use Rattle.pairs.specs.Sound.{Sound, PlannedSound, old_planned, new_planned}
use Rattle.judge.specs.Judge.{fit_read, records_of, judged_of, verdict_on, verdict_by, old_verdict, new_verdict}

-- a record's marks are enough to judge it
abbrev pub fit_marks : Result Marks Refusal → Result Unit Refusal
fit_marks (Ok m) = fields_fit m.flags m.nir m.scan_angle
fit_marks (Err r) = Err r

pub marks_enough : (x : Result Point Refusal) → fit_marks (marks_read x) ≡ fit_read x
unfolding fit_of
marks_enough (Ok p) = refl
marks_enough (Err r) = refl

module _ (up : Bool) (p : Plan) (count : ℕ) (s : List ℕ) where
  pub record Goes : Type 0 where
    pub there : count * p.source_length ≤ length s
    pub records : records_of up p count s ≡ Ok tt

  pub goes : judged_of up p count s ≡ Ok tt → Goes
  unfolding judged_of
  goes = go (ltb (length s) (count * p.source_length)) refl _
    where
      go : (x : Bool) → ltb (length s) (count * p.source_length) ≡ x → (a : Refusal) → cond x (Err (at_record a 0)) (records_of up p count s) ≡ Ok tt → Goes
      go false f a e = record { there = ltb-false _ _ f; records = e }
      go true f a e = let z : ◌≡◌ {A = ℕ} 0 1 = cc in absurd (omega arith)

-- what a verdict leaves to the writing: a plan that it names is sound, the run goes by it, and it needs so many bytes
abbrev pub Ready : Bool → ℕ → List ℕ → Result Run Refused → Type 0
Ready up count s (Ok run) = Sound up run.plan × Goes up run.plan count s × (run.bytes ≡ count * run.plan.target_length)
Ready up count s (Err err) = Unit

ready : (up : Bool) (count : ℕ) (s : List ℕ) (x : Result Plan Refusal) → PlannedSound up x → Ready up count s (verdict_by up count s x)
ready up count s (Err r) sound = tt
ready up count s (Ok p) sound = go (judged_of up p count s) refl
  where
    go : (x : Result Unit Refused) → judged_of up p count s ≡ x → Ready up count s (verdict_on p count x)
    go (Ok _) e = (sound, goes up p count s e, refl)
    go (Err err) e = tt

module _ (format extra count : ℕ) (s : List ℕ) where
  pub old_ready : Ready false count s (old_verdict format extra count s)
  unfolding old_verdict
  old_ready = ready false count s (planned_by format (old_pair format extra)) (old_planned format extra)

  pub new_ready : Ready true count s (new_verdict format extra count s)
  unfolding new_verdict
  new_ready = ready true count s (planned_by format (new_pair format extra)) (new_planned format extra)
