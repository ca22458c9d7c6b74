use Rattle.std.specs.Prelude.{Some}
use mathlib.Core.Path.{◌≡◌, sym, ◌∙◌}
use mathlib.Core.Bool.{true, false}
use borrow.Author.Tests.{eq-eqb, ne_eqb}
use lib.Dec.{eqb}
use lib.ListN.{get_or}
use Rattle.capi_sheet.specs.Numbers.{bounds_from}
use Rattle.capi_sheet.proofs.bounds_from.Goals as goal

pub returns-then-nth-eq0 : goal.returns-then-nth-eq0
unfolding bounds_from
returns-then-nth-eq0 c =
    let n = c.args.n.now in
    let none : eqb (get_or n 2 0) 0 ≡ true = eq-eqb (get_or n 2 0) 0 (sym c.nth.ensures ∙ c.if-nth-eq0.true) in
    rw none

pub returns : goal.returns
unfolding bounds_from
returns c =
    let n = c.args.n.now in
    let some : eqb (get_or n 2 0) 0 ≡ false = ne_eqb (get_or n 2 0) 0 (λ z. c.if-nth-eq0.false (c.nth.ensures ∙ z)) in
    rw some (λ i. Some (record { x = c.range_from.ensures i; y = c.range_from-2.ensures i; z = c.range_from-3.ensures i }))
