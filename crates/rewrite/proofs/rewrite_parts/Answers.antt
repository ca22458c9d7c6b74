use Prim.Native.Nat.{◌+◌, ◌≤◌}
use mathlib.Core.Path.{◌≡◌, refl, sym, ap, ◌∙◌}
use mathlib.Core.List.{◌∷◌}
use native.Mathlib.Omega.{arith}
use lib.ListN.{length, length-take, length-drop}
use Rattle.le.specs.Le.{Bytes}
use Rattle.lent.specs.Laws.{whole}
use Rattle.cursor.specs.Cursor.{left_of}
use Rattle.rewrite.specs.Rewritten.{back_of}
use Rattle.rewrite.specs.Asked.{Tiles}
use Rattle.rewrite.specs.Whole.{first_ends, length_tiles}
use Rattle.cursor.specs.Laws.{has_part, has-none}
use Rattle.rewrite.proofs.Turn.{cut-length, cut-whole, part_turn}
use Rattle.rewrite.proofs.rewrite_parts.Goals as goal
use Rattle.rewrite.proofs.rewrite_parts.Goals.{In-Some}

pub loop-step-init : goal.loop-step-init
loop-step-init c = (0, c.requires.0, refl, refl)

pub returns : goal.returns
unfolding back_of
returns c =
    let a = c.args in
    let none = has-none a.file.now c.loop-step.c (sym c.next.ensures ∙ c.in_default.is) in
    let all = length_tiles a.o a.file.now (λ k. omega (arith, c.shared_slice_known-1.given k)) 0 (left_of a.file.now a.c) c.requires.0 in
    rw none at c.loop-step.invariant.3
    ∙ whole a.dst.now (back_of a.o a.file.now (left_of a.file.now a.c)) (length a.file.now) (omega (arith, all)) c.requires.1

-- the part of a turn, and those after it
module _ (x : In-Some) where
  more : left_of x.args.file.now x.loop-step.c ≡ x.in-Some.step.part ∷ left_of x.args.file.now x.in-Some.step.next
  more = has_part x.args.file.now x.loop-step.c (sym x.next.ensures ∙ x.in-Some.is)

  tiled : Tiles x.args.o x.args.file.now x.loop-step.invariant.0 (x.in-Some.step.part ∷ left_of x.args.file.now x.in-Some.step.next)
  tiled = rw more at x.loop-step.invariant.1

  is-bytes : Bytes x.args.file.now
  is-bytes k = omega (arith, x.shared_slice_known-1.given k)

  inside : x.in-Some.step.part.start + x.in-Some.step.part.length ≤ length x.args.file.now
  inside = first_ends x.args.o x.args.file.now is-bytes x.loop-step.invariant.0 x.in-Some.step.part (left_of x.args.file.now x.in-Some.step.next) tiled.0

pub rewrite_part-requires : goal.rewrite_part-requires
rewrite_part-requires c =
    let a = c.args in
    let p = c.in-Some.step.part in
    let x = (goal.at.rewrite_part-requires c).In-Some in
    let long = cut-length a.o a.file.now (is-bytes x) p (inside x) (tiled x).1.0 in
    (cut-whole a.o a.file.now (is-bytes x) p (inside x) (tiled x).1.0, rw long (simp (length-take, length-drop) (omega (arith, inside x, c.requires.1, c.loop-step.invariant.2))))

pub loop-step-smaller : goal.loop-step-smaller
loop-step-smaller c = omega (arith, ap length (more (goal.at.loop-step-smaller c).In-Some))

pub loop-step-preserved : goal.loop-step-preserved
loop-step-preserved c =
    let l = c.loop-step in
    let s = c.args.file.now in
    let r = c.in-Some.step in
    let x = (goal.at.loop-step-preserved c).In-Some in
    let t = part_turn c.args.o s (is-bytes x) r.part (inside x) (tiled x).1.0 l.invariant.0 (tiled x).0.0 (left_of s r.next) l.dst c.rewrite_part.new.dst (omega (arith, c.requires.1, l.invariant.2)) c.rewrite_part.ensures (rw (more x) at l.invariant.3) in
    (l.invariant.0 + r.part.length, ((tiled x).0.1, (tiled x).1.1), t.0 ∙ l.invariant.2, t.1)

pub overflow_add-to : goal.overflow_add-to
overflow_add-to c = omega (arith, inside (goal.at.overflow_add-to c).In-Some)

pub slice_bounds-rewrite_part-count : goal.slice_bounds-rewrite_part-count
slice_bounds-rewrite_part-count c = omega (arith, inside (goal.at.slice_bounds-rewrite_part-count c).In-Some)

pub slice_bounds-rewrite_part-start : goal.slice_bounds-rewrite_part-start
slice_bounds-rewrite_part-start c = omega (arith, inside (goal.at.slice_bounds-rewrite_part-start c).In-Some)

pub slice_bounds-rewrite_part-end : goal.slice_bounds-rewrite_part-end
slice_bounds-rewrite_part-end c = omega (arith, inside (goal.at.slice_bounds-rewrite_part-end c).In-Some)

pub slice_bounds-rewrite_part-count-in-Some : goal.slice_bounds-rewrite_part-count-in-Some
slice_bounds-rewrite_part-count-in-Some c = omega (arith, inside (goal.at.slice_bounds-rewrite_part-count-in-Some c).In-Some)

pub slice_bounds-rewrite_part-start-in-Some : goal.slice_bounds-rewrite_part-start-in-Some
slice_bounds-rewrite_part-start-in-Some c = omega (arith, inside (goal.at.slice_bounds-rewrite_part-start-in-Some c).In-Some)

pub slice_bounds-rewrite_part-end-in-Some : goal.slice_bounds-rewrite_part-end-in-Some
slice_bounds-rewrite_part-end-in-Some c = omega (arith, inside (goal.at.slice_bounds-rewrite_part-end-in-Some c).In-Some)
