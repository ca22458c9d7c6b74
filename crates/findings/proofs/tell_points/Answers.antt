use Prim.Native.Nat.{ℕ}
use mathlib.Core.Path.{◌≡◌, ap, sym, ◌∙◌}
use native.Mathlib.Omega.{arith}
use borrow.Author.Tests.{eqb-true}
use lib.ListN.{length}
use Rattle.finding.specs.Told.{plus, told-nowhere}
use Rattle.findings.specs.Found.{odd_points}
use Rattle.findings.specs.Laws.{odd_all, told-empty}
use Rattle.findings.proofs.tell_points.Goals as goal
use Rattle.findings.proofs.tell_points.Goals.{Start}

-- the survey counted them
counted : (x : Start) → length (odd_points x.args.file.now x.args.survey x.args.number) ≡ x.args.survey.returns.odd
unfolding odd_points
counted x =
    let v = x.args.survey in
    odd_all x.args.file.now v.extended v.at v.each x.args.number v.count ∙ sym x.requires.odd

pub returns-then-is_empty : goal.returns-then-is_empty
returns-then-is_empty c =
    let a = c.args in
    let empty = eqb-true _ _ (sym c.is_empty.ensures ∙ c.if-is_empty.true) in
    let fs = odd_points a.file.now a.survey a.number in
    ap (λ (k : ℕ). (k, a.out.now)) (c.plus.ensures ∙ ap (plus a.n) (sym (counted (goal.at.returns-then-is_empty c).Start))) ∙ sym (told-nowhere fs a.n a.out.now (omega arith))

pub returns-then-odd-eq0 : goal.returns-then-odd-eq0
returns-then-odd-eq0 c =
    let a = c.args in
    sym (told-empty (odd_points a.file.now a.survey a.number) (a.n, a.out.now) (counted (goal.at.returns-then-odd-eq0 c).Start ∙ c.if-odd-eq0.true))

pub returns : goal.returns
unfolding odd_points
returns c = c.tell_odd.ensures
