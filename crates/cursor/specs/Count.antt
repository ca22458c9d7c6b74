-- How many parts a cursor may have to tell.
use Rattle.std.specs.Prelude.{None, Option, Some, Result, Ok, Err}
use Rattle.refusal.specs.declared.Refusal.{Refusal}
use Prim.Native.Nat.{ℕ, zero, suc, ◌+◌, ◌-◌, ◌≤◌}
use Rattle.std.specs.Prelude.{◌≡◌, Bool, cond, List, [], ◌∷◌, ltb}
use Rattle.std.proofs.Common.{refl, ap, sym, ◌∙◌, add-one, arith}
use Rattle.std.proofs.Math.Bool.{true, false}
use Rattle.std.proofs.Math.ListN.{length, length-append}
use Rattle.vlr.specs.Vlr.{extent_of}
use Rattle.cursor.specs.declared.Kind.{Kind}
use Rattle.cursor.specs.declared.Kind.TheVariants as kind
use Rattle.cursor.specs.declared.Part.{Part}
use Rattle.cursor.specs.declared.Plan.{Plan}
use Rattle.cursor.specs.declared.Stage.{Stage}
use Rattle.cursor.specs.declared.Stage.TheVariants as stage
use Rattle.cursor.specs.declared.Cursor.{Cursor}
use Rattle.cursor.specs.declared.Step.{Step}
use Rattle.cursor.specs.Parts.{part, gap, between, later_kind}
use Rattle.cursor.specs.Cursor.{cursor, when_bytes, records_from, later_from, end_from, points_from, vlrs_from, left_of, step_of, told_by}
use Rattle.cursor.specs.Laws.{left_step}

gap_few : (from to : ℕ) → length (gap from to) ≤ 1
unfolding gap
gap_few from to = go (ltb from to)
  where
    go : (b : Bool) → length (cond b (part kind.Gap from (to - from) ∷ []) []) ≤ 1
    go true = omega arith
    go false = omega arith

told_few : (x : Result ℕ Refusal) (f : ℕ → List Part) (most : ℕ) → ((m : ℕ) → length (f m) ≤ most) → length (when_bytes x f []) ≤ most
told_few (Ok m) f most h = h m
told_few (Err r) f most h = omega arith

module _ (s : List ℕ) where
  records_few : (k : Kind) (extended : Bool) (n at to : ℕ) (after : List Part) → length (records_from s k extended n at to after) ≤ n + 1 + length after
  unfolding records_from
  records_few k extended zero at to after = omega (arith, length-append (gap at to) after, gap_few at to)
  records_few k extended (suc n) at to after =
      told_few (extent_of extended (between at to s)) (λ m. part k at m ∷ records_from s k extended n (at + m) to after) (suc n + 1 + length after)
      (λ m. omega (arith, records_few k extended n (at + m) to after))

  later_few : (p : Plan) (left at : ℕ) → length (later_from s p left at) ≤ left + 1
  unfolding later_from
  later_few p left at = omega (arith, records_few (later_kind p.waveform) true left at (length s) [])

  end_few : (p : Plan) (at : ℕ) → length (end_from s p at) ≤ p.number_of_later_records + 2
  unfolding end_from
  end_few p at =
      let n = p.number_of_later_records in
      let start = p.start_of_later_records in
      omega (arith, length-append (gap at start) (later_from s p n start), gap_few at start, later_few p n start)

  points_few : (p : Plan) → length (points_from s p) ≤ p.number_of_later_records + 3
  unfolding points_from
  points_few p = omega (arith, end_few p p.«end»)

  vlrs_few : (p : Plan) (left at : ℕ) → length (vlrs_from s p left at) ≤ left + p.number_of_later_records + 4
  unfolding vlrs_from
  vlrs_few p left at = omega (arith, records_few kind.Vlr false left at p.points (points_from s p), points_few p)

  few_at : (k : Stage) (at left : ℕ) (p : Plan) → length (left_of s (cursor k at left p)) ≤ left + p.number_of_vlrs + p.number_of_later_records + 5
  unfolding left_of
  few_at stage.Header at left p = omega (arith, vlrs_few p p.number_of_vlrs p.header_size)
  few_at stage.Vlrs at left p = omega (arith, vlrs_few p left at)
  few_at stage.Points at left p = omega (arith, points_few p)
  few_at stage.Between at left p = omega (arith, end_few p at)
  few_at stage.Later at left p = omega (arith, later_few p left at)

  pub few_left : (c : Cursor) → length (left_of s c) ≤ c.left + c.plan.number_of_vlrs + c.plan.number_of_later_records + 5
  few_left c = few_at c.stage c.at c.left c.plan

-- a step that has a part tells one more than the cursor after it
module _ (s : List ℕ) where
  pub told-one : (r : Step) → length (told_by (left_of s) (Some r)) ≡ length (left_of s r.next) + 1
  told-one r = sym (add-one (length (left_of s r.next)))

  -- one that has none tells none
  pub told_none : length (told_by (left_of s) None) ≡ 0
  told_none = refl

  -- and the step at a cursor tells what is left there
  pub told-all : (c : Cursor) (r : Option Step) → r ≡ step_of s c → length (told_by (left_of s) r) ≡ length (left_of s c)
  told-all c r e = ap (λ (x : Option Step). length (told_by (left_of s) x)) e ∙ ap length (sym (left_step s c))
