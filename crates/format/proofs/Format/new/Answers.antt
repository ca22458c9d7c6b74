use Rattle.format.specs.Codes.{format_of}
use Rattle.refusal.proofs.Tests.{tests}
use borrow.Author.Rules.{rules}
use Rattle.format.proofs.Format.new.Goals as goal

pub with_code-requires : goal.with_code-requires
unfolding format_of
with_code-requires c = search rules

pub returns-then-n-lt11 : goal.returns-then-n-lt11
unfolding format_of
returns-then-n-lt11 c = rw c.with_code.ensures (search tests)

pub returns-then-n-lt128 : goal.returns-then-n-lt128
unfolding format_of
returns-then-n-lt128 c = search tests

pub with_code-requires-2 : goal.with_code-requires-2
unfolding format_of
with_code-requires-2 c = search rules

pub returns : goal.returns
unfolding format_of
returns c = rw c.with_code-2.ensures (search tests)
