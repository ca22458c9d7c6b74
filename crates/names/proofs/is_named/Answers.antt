use Prim.Native.Nat.{ℕ}
use mathlib.Core.Path.{◌≡◌, sym, ap, ◌∙◌}
use mathlib.Core.List.{List, ◌++◌}
use borrow.Author.Rules.{rules}
use borrow.Author.Tests.{tests}
use lib.Dec.{eqb}
use Rattle.std.proofs.lemmas.Bool.Decides.{Decides-eqb}
use Rattle.std.proofs.lemmas.Option.{MatchOption-at_some, MatchOption-at_none}
use Rattle.std.proofs.lemmas.Slice.Eq.{strip_prefix_is}
use Rattle.std.proofs.lemmas.Iterator.{YieldsList-from_slice}
use Rattle.std.proofs.lemmas.Iterator.Search.{all_from_yields_List}
use Rattle.names.specs.Names.{is_named}
use Rattle.names.specs.Laws.{prefixed, not_prefixed}
use Rattle.names.proofs.is_named.Goals as goal

pub returns-in_default : goal.returns-in_default
returns-in_default c =
    let a = c.args in
    sym (not_prefixed a.field.now a.name.now (MatchOption-at_none _ _ c.in_default.is (strip_prefix_is Decides-eqb a.field.now a.name.now c.strip_prefix.result c.strip_prefix.ensures.cases)))

pub returns : goal.returns
returns c =
    let a = c.args in
    let rest = c.in-Some.rest.now in
    let split : a.field.now ≡ a.name.now ++ rest = MatchOption-at_some _ _ c.in-Some.rest c.in-Some.is (strip_prefix_is Decides-eqb a.field.now a.name.now c.strip_prefix.result c.strip_prefix.ensures.cases) in
    all_from_yields_List (λ b. eqb b 0) _ _ _ c.all.ensures.ran (YieldsList-from_slice rest cc) (λ x b q k. search (rules, tests))
    ∙ sym (prefixed a.name.now rest) ∙ ap (λ (l : List ℕ). is_named l a.name.now) (sym split)
