-- Laws of the cursor: a step tells the first of the parts that are left, and a record that is told ends where it must.
use Rattle.std.specs.Prelude.{Option, Some, None, Result, Ok, Err}
use Rattle.refusal.specs.declared.Refusal.{Refusal}
use Prim.Native.Nat.{ℕ, zero, suc, ◌+◌, ◌-◌, ◌≤◌, ◌<◌}
use Rattle.std.specs.Prelude.{◌≡◌, Bool, ltb, length, drop}
use Rattle.std.proofs.Math.Path.{refl, ap, sym}
use Rattle.std.proofs.Common.{◌∙◌, arith, lt-ltb, le-ltb, length-take, drop-drop}
use Rattle.std.proofs.Math.Bool.{true, false, cond}
use mathlib.Core.List.{List, [], ◌∷◌, ◌++◌}
use Rattle.std.proofs.Math.Nat.{min-le_left}
use Rattle.vlr.specs.Layout.{head_size}
use Rattle.vlr.specs.Vlr.{extent_of}
use Rattle.vlr.specs.Laws.{accepted}
use Rattle.header.specs.Window.{drop-take}
use Rattle.cursor.specs.declared.Kind.{Kind}
use Rattle.cursor.specs.declared.Kind.TheVariants as kind
use Rattle.cursor.specs.declared.Part.{Part}
use Rattle.cursor.specs.declared.Plan.{Plan}
use Rattle.cursor.specs.declared.Stage.{Stage}
use Rattle.cursor.specs.declared.Stage.TheVariants as stage
use Rattle.cursor.specs.declared.Cursor.{Cursor}
use Rattle.cursor.specs.declared.Step.{Step}
use Rattle.cursor.specs.Parts.{part, gap, between, later_kind}
use Rattle.cursor.specs.Cursor.{cursor, told, past_gap, when_bytes, record_step, points_step, vlrs_step, later_step, at_later, between_step, step_of, records_from, later_from, end_from, points_from, vlrs_from, left_of, told_by}

pub between-short : (from to : ℕ) (s : List ℕ) → length (between from to s) ≤ to - from
between-short from to s = rw length-take (min-le_left (to - from) (length (drop from s)))

some-head : (extended : Bool) → 1 ≤ head_size extended
some-head true = omega arith
some-head false = omega arith

-- a record that is all there ends at or before the place that its bytes end at
pub ends_within : (extended : Bool) (s : List ℕ) (at to : ℕ) {n : ℕ} → extent_of extended (between at to s) ≡ Ok n → at + n ≤ to
ends_within extended s at to p =
    let w = accepted extended (between at to s) p in
    omega (arith, some-head extended, between-short at to s)

-- what is left of some bytes after the first n
pub drop-between : (n from to : ℕ) (s : List ℕ) → drop n (between from to s) ≡ between (from + n) to s
drop-between n from to s =
    let e : (to - from) - n ≡ to - (from + n) = omega arith in
    rw (drop-take, drop-drop, e)

-- a gap that is there is told, and one that is not is passed
module _ (at to : ℕ) (next : Cursor) (otherwise : Option Step) where
  pub gap-told : at < to → past_gap at to next otherwise ≡ told kind.Gap at (to - at) next
  unfolding past_gap
  gap-told h = rw (lt-ltb at to h)

  pub gap_passed : to ≤ at → past_gap at to next otherwise ≡ otherwise
  unfolding past_gap
  gap_passed h = rw (le-ltb at to h)

module _ (s : List ℕ) where
  -- a gap, or what follows it
  past : (at to : ℕ) (next : Cursor) (otherwise : Option Step) (after : List Part) → left_of s next ≡ after → told_by (left_of s) otherwise ≡ after → gap at to ++ after ≡ told_by (left_of s) (past_gap at to next otherwise)
  unfolding gap past_gap
  past at to next otherwise after e f = go (ltb at to)
    where
      go : (b : Bool) → cond b (part kind.Gap at (to - at) ∷ []) [] ++ after ≡ told_by (left_of s) (cond b (told kind.Gap at (to - at) next) otherwise)
      go true = ap (λ (ps : List Part). part kind.Gap at (to - at) ∷ ps) (sym e)
      go false = sym f

  -- a record, where it is all there
  whole : (x : Result ℕ Refusal) (k : Kind) (at : ℕ) (c : Cursor) (after : ℕ → List Part) (next : ℕ → Cursor) → ((n : ℕ) → left_of s (next n) ≡ after n)
      → when_bytes x (λ n. part k at n ∷ after n) [] ≡ told_by (left_of s) (when_bytes x (λ n. told k at n (next n)) None)
  whole (Ok n) k at c after next e = ap (λ (ps : List Part). part k at n ∷ ps) (sym (e n))
  whole (Err r) k at c after next e = refl

  one_less : (k : ℕ) → suc k - 1 ≡ k
  one_less k = omega arith

  no_gap : (n : ℕ) → gap n n ≡ []
  unfolding gap
  no_gap n = rw (le-ltb n n (omega arith))

  at_later_lem : (left at : ℕ) (p : Plan) → later_from s p left at ≡ told_by (left_of s) (later_step s (cursor stage.Later at left p))
  unfolding left_of later_step later_from records_from record_step
  at_later_lem zero at p = past at (length s) (cursor stage.Later (length s) 0 p) None [] (rw no_gap) refl
  at_later_lem (suc k) at p =
      rw (lt-ltb 0 (suc k) (omega arith))
      (whole (extent_of true (between at (length s) s)) (later_kind p.waveform) at (cursor stage.Later at (suc k) p) (λ n. records_from s (later_kind p.waveform) true k (at + n) (length s) [])
      (λ n. cursor stage.Later (at + n) (suc k - 1) p) (λ n. rw one_less))

  at-points : (p : Plan) → points_from s p ≡ told_by (left_of s) (points_step p)
  unfolding left_of points_from
  at-points p = refl

  at_vlrs : (left at : ℕ) (p : Plan) → vlrs_from s p left at ≡ told_by (left_of s) (vlrs_step s (cursor stage.Vlrs at left p))
  unfolding left_of vlrs_step vlrs_from records_from record_step
  at_vlrs zero at p = past at p.points (cursor stage.Points p.points 0 p) (points_step p) (points_from s p) refl (sym (at-points p))
  at_vlrs (suc k) at p =
      rw (lt-ltb 0 (suc k) (omega arith))
      (whole (extent_of false (between at p.points s)) kind.Vlr at (cursor stage.Vlrs at (suc k) p) (λ n. records_from s kind.Vlr false k (at + n) p.points (points_from s p))
      (λ n. cursor stage.Vlrs (at + n) (suc k - 1) p) (λ n. rw one_less))

  at-between : (left at : ℕ) (p : Plan) → end_from s p at ≡ told_by (left_of s) (between_step s (cursor stage.Between at left p))
  unfolding left_of end_from between_step
  at-between left at p = past at p.start_of_later_records (at_later p) (later_step s (at_later p)) (later_from s p p.number_of_later_records p.start_of_later_records) refl (sym (at_later_lem p.number_of_later_records p.start_of_later_records p))

  by_stage : (k : Stage) (at left : ℕ) (p : Plan) → left_of s (cursor k at left p) ≡ told_by (left_of s) (step_of s (cursor k at left p))
  unfolding left_of step_of
  by_stage stage.Header at left p = refl
  by_stage stage.Vlrs at left p = at_vlrs left at p
  by_stage stage.Points at left p = at-points p
  by_stage stage.Between at left p = at-between left at p
  by_stage stage.Later at left p = at_later_lem left at p

  -- a step tells the first of the parts that are left, and has none where none is left
  pub left_step : (c : Cursor) → left_of s c ≡ told_by (left_of s) (step_of s c)
  left_step c = by_stage c.stage c.at c.left c.plan

module _ (s : List ℕ) (c : Cursor) where
  -- a step that has a part tells the first of those left
  pub has_part : {r : Step} → step_of s c ≡ Some r → left_of s c ≡ r.part ∷ left_of s r.next
  has_part e = left_step s c ∙ ap (told_by (left_of s)) e

  pub has-none : step_of s c ≡ None → left_of s c ≡ []
  has-none e = left_step s c ∙ ap (told_by (left_of s)) e

  -- and where some are left it has one
  pub some_left : 0 < length (left_of s c) → (r : Step) × (step_of s c ≡ Some r) × (left_of s c ≡ r.part ∷ left_of s r.next)
  some_left more = go (step_of s c) refl
    where
      go : (x : Option Step) → step_of s c ≡ x → (r : Step) × (step_of s c ≡ Some r) × (left_of s c ≡ r.part ∷ left_of s r.next)
      go None e = let none : length (left_of s c) ≡ 0 = ap length (has-none e) in absurd (omega arith)
      go (Some r) e = (r, e, has_part e)
