use Prim.Native.Nat.{ℕ, ◌+◌, ◌-◌, ◌≤◌}
use mathlib.Core.Path.{◌≡◌, ap, sym, ◌∙◌}
use mathlib.Core.Bool.{true}
use native.Mathlib.Omega.{arith}
use lib.ListN.{length, take, drop}
use Rattle.attribute_value.specs.Value.{value_at, lies}
use Rattle.attribute_value.specs.Laws.{lies_says, placed_says, refused_says, bytes-at, no_bytes}
use Rattle.attribute_value.proofs.bytes.Goals as goal
use Rattle.attribute_value.proofs.bytes.Goals.{After-place, In-Ok, Start}

pub returns-in_default : goal.returns-in_default
returns-in_default c =
    let a = c.args in
    sym (no_bytes a.a a.point a.file.now (refused_says a.a a.point a.file.now (sym c.place.ensures ∙ c.in_default.is)))

-- the place that was answered is the value's, which lies in the file
module _ (k : In-Ok) where
  abbrev p : After-place
  p = (goal.at.In-Ok k).After-place

  abbrev start : Start
  start = (goal.at.After-place p).Start

  abbrev from : ℕ
  from = k.in-Ok.from

  at : (lies start.args.a start.args.point start.args.file.now ≡ true) × (from ≡ value_at start.args.a start.args.point)
  at = placed_says start.args.a start.args.point start.args.file.now (sym p.place.ensures ∙ k.in-Ok.is)

  ends : from + start.args.a.size ≤ length start.args.file.now
  ends = omega (arith, at.1, (lies_says start.args.a start.args.point start.args.file.now at.0).ends)

pub returns : goal.returns
returns c =
    let a = (start (goal.at.returns c).In-Ok).args in
    let long : from (goal.at.returns c).In-Ok + a.a.size - from (goal.at.returns c).In-Ok ≡ a.a.size = omega arith in
    ap (λ (n : ℕ). take n (drop (from (goal.at.returns c).In-Ok) a.file.now)) long ∙ ap (λ (n : ℕ). take a.a.size (drop n a.file.now)) (at (goal.at.returns c).In-Ok).1
    ∙ sym (bytes-at a.a a.point a.file.now (at (goal.at.returns c).In-Ok).0)

pub overflow_add-to : goal.overflow_add-to
overflow_add-to c = omega (arith, ends (goal.at.overflow_add-to c).In-Ok)

pub slice_bounds-result-end-2 : goal.slice_bounds-result-end-2
slice_bounds-result-end-2 c = omega (arith, ends (goal.at.slice_bounds-result-end-2 c).In-Ok)
