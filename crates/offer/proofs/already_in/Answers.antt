use Prim.Native.Nat.{◌+◌, ◌-◌, ◌≤◌}
use mathlib.Core.Path.{◌≡◌, sym}
use native.Mathlib.Omega.{arith}
use borrow.Author.Tests.{eq-eqb, ne_eqb}
use lib.ListN.{take, drop}
use lib.Seq.{length-take-le}
use Rattle.header.proofs.Text.{decided}
use Rattle.offer.specs.Steps.{stand_last}
use Rattle.offer.proofs.already_in.Goals as goal
use Rattle.offer.proofs.already_in.Goals.{Else-count-believed-2}

pub returns-then-count-believed : goal.returns-then-count-believed
unfolding stand_last
returns-then-count-believed c = let a = c.args in rw (ne_eqb a.count (a.believed + a.n) (λ e. omega arith))

pub returns-then-count-believed-2 : goal.returns-then-count-believed-2
unfolding stand_last
returns-then-count-believed-2 c = let a = c.args in rw (ne_eqb a.count (a.believed + a.n) (λ e. c.if-count-believed-2.true (omega arith)))

-- where the count is higher by n, their bytes end there
ends : (c : Else-count-believed-2) → c.args.bytes ≤ c.args.end
ends c = c.requires.last (omega arith)

pub slice_bounds-same-end-2 : goal.slice_bounds-same-end-2
slice_bounds-same-end-2 c = sym (length-take-le c.args.bytes c.args.records.now c.requires.there)

pub returns : goal.returns
unfolding stand_last
returns c =
    let a = c.args in
    let cut : a.end - (a.end - a.bytes) ≡ a.bytes = omega (arith, ends (goal.at.returns c).Else-count-believed-2) in
    let same = decided c.same.result (take (a.end - (a.end - a.bytes)) (drop (a.end - a.bytes) a.file.now)) (take a.bytes a.records.now) c.same.ensures.0 c.same.ensures.1 in
    rw (eq-eqb a.count (a.believed + a.n) (omega arith)) (rw cut at same)
