use borrow.Author.Rules.{rules}
use Rattle.refusal.proofs.Tests.{tests}
use Rattle.header.specs.Judged.{sized, padded_to}
use Rattle.header.proofs.judge_size.Goals as goal

pub returns-then-s-n : goal.returns-then-s-n
unfolding sized padded_to
returns-then-s-n c = search tests

pub u16_at-field-requires : goal.u16_at-field-requires
unfolding sized padded_to
u16_at-field-requires c = search rules

pub overflow_cast-field : goal.overflow_cast-field
unfolding sized padded_to
overflow_cast-field c = search rules

pub overflow_cast-result-then-s-field : goal.overflow_cast-result-then-s-field
unfolding sized padded_to
overflow_cast-result-then-s-field c = search rules

pub returns-then-s-field : goal.returns-then-s-field
unfolding sized padded_to
returns-then-s-field c = rw (← c.u16_at-field.ensures) (search tests)

pub overflow_cast-result-then-n-field-2 : goal.overflow_cast-result-then-n-field-2
unfolding sized padded_to
overflow_cast-result-then-n-field-2 c = search rules

pub returns-then-n-field : goal.returns-then-n-field
unfolding sized padded_to
returns-then-n-field c = rw (← c.u16_at-field.ensures) (search tests)

pub returns : goal.returns
unfolding sized padded_to
returns c = rw (← c.u16_at-field.ensures) (search tests)
