use borrow.Author.Rules.{rules}
use borrow.Author.Tests.{tests}
use Rattle.std.proofs.lemmas.Iterator.{YieldsList-from_slice}
use Rattle.std.proofs.lemmas.Iterator.Search.{all_from_yields_List}
use Rattle.header_convert.specs.Turned.{fits32}
use Rattle.header_convert.proofs.five_fit.Goals as goal

pub returns : goal.returns
returns c =
    all_from_yields_List fits32 _ _ _ c.all.ensures.ran (YieldsList-from_slice c.args.xs cc) (λ x b q k. search (rules, tests))
