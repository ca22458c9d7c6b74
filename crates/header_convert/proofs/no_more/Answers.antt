use borrow.Author.Rules.{rules}
use borrow.Author.Tests.{tests}
use lib.ListN.{length, drop}
use mathlib.Core.Path.{◌≡◌, ◌∙◌}
use native.Mathlib.Omega.{arith}
use Rattle.std.proofs.Common.{length-drop, take_all}
use Rattle.std.proofs.lemmas.Iterator.{YieldsList-from_slice}
use Rattle.std.proofs.lemmas.Iterator.Search.{all_from_yields_List}
use Rattle.header_convert.specs.Turned.{is_zero}
use Rattle.header_convert.proofs.no_more.Goals as goal

pub returns : goal.returns
returns c =
    let fifteen : length c.args.xs ≡ 15 = search rules in
    all_from_yields_List is_zero _ _ _ c.all.ensures.ran (YieldsList-from_slice (drop 5 c.args.xs) (c.iter.ensures.rest ∙ take_all 10 (drop 5 c.args.xs) (simp length-drop (omega arith)))) (λ x b q k. search (rules, tests))
