use Rattle.refusal.proofs.Tests.{tests}
use Rattle.words.specs.Words.{flags_of}
use borrow.Author.Rules.{rules}
use Rattle.words.proofs.flags_of.Goals as goal

pub overflow_cast-a : goal.overflow_cast-a
unfolding flags_of
overflow_cast-a c = search rules

pub overflow_cast-b : goal.overflow_cast-b
unfolding flags_of
overflow_cast-b c = search rules

pub overflow_cast-result : goal.overflow_cast-result
unfolding flags_of
overflow_cast-result c = search rules

pub returns-then-w-eq3 : goal.returns-then-w-eq3
unfolding flags_of
returns-then-w-eq3 c = search tests

pub returns : goal.returns
unfolding flags_of
returns c = search tests
