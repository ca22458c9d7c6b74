use mathlib.Core.Path.{◌≡◌, sym, ap, ◌∙◌}
use mathlib.Core.List.{List}
use Prim.Native.Nat.{ℕ}
use Rattle.cursor.specs.declared.Stage.{Stage}
use Rattle.cursor.specs.declared.Cursor.{Cursor}
use Rattle.cursor.specs.Cursor.{step_at, step_of}
use Rattle.cursor.proofs.next.Goals as goal

at_stage : (s : List ℕ) (c : Cursor) {k : Stage} → c.stage ≡ k → step_at k s c ≡ step_of s c
unfolding step_of
at_stage s c e = ap (λ (k : Stage). step_at k s c) (sym e)

pub returns-in-Header : goal.returns-in-Header
returns-in-Header c = c.step_header.ensures ∙ at_stage _ _ c.in-Header.is

pub returns-in-Vlrs : goal.returns-in-Vlrs
returns-in-Vlrs c = c.step_vlrs.ensures ∙ at_stage _ _ c.in-Vlrs.is

pub returns-in-Points : goal.returns-in-Points
returns-in-Points c = c.step_points.ensures ∙ at_stage _ _ c.in-Points.is

pub returns-in-Between : goal.returns-in-Between
returns-in-Between c = c.step_between.ensures ∙ at_stage _ _ c.in-Between.is

pub returns-in-Later : goal.returns-in-Later
returns-in-Later c = c.step_later.ensures ∙ at_stage _ _ c.in-Later.is
