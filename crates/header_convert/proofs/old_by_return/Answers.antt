use mathlib.Core.Path.{◌≡◌, ap, ◌∙◌}
use native.Mathlib.Omega.{arith}
use borrow.Author.Rules.{rules}
use borrow.Author.Tests.{eq-eqb, ne_eqb}
use lib.ListN.{length, take}
use Rattle.header_convert.specs.Turned.{old_by_return}
use Rattle.header_convert.specs.Lists.{numbers_are}
use Rattle.header_convert.proofs.old_by_return.Goals as goal
use Rattle.header_convert.proofs.old_by_return.Goals.{After-large_of-large}

fifteen : (x : After-large_of-large) → length x.large_of-large.result ≡ 15
fifteen x = search rules

pub returns-then-header-eq0 : goal.returns-then-header-eq0
unfolding old_by_return
returns-then-header-eq0 c =
    let h = c.args.header in
    rw (eq-eqb h.number_of_point_records 0 c.if-header-eq0.true) (numbers_are 5 0 c.large_of-large.result (omega (arith, fifteen c)) ∙ ap (take 5) c.large_of-large.ensures)

pub returns : goal.returns
unfolding old_by_return
returns c =
    let h = c.args.header in
    rw (ne_eqb h.number_of_point_records 0 c.if-header-eq0.false) c.widened.ensures
