use Rattle.refusal.proofs.Tests.{tests}
use Rattle.flags.specs.Bytes.{cleared_of}
use borrow.Author.Rules.{rules}
use Rattle.flags.proofs.cleared_three.Goals as goal

pub overflow_mul-result : goal.overflow_mul-result
unfolding cleared_of
overflow_mul-result c = search rules

pub overflow_add-result : goal.overflow_add-result
unfolding cleared_of
overflow_add-result c = search rules

pub overflow_add-result-then-c-eq-OVERLAP_CLASSIFICATION_CODE : goal.overflow_add-result-then-c-eq-OVERLAP_CLASSIFICATION_CODE
unfolding cleared_of
overflow_add-result-then-c-eq-OVERLAP_CLASSIFICATION_CODE c = search rules

pub returns-then-c-eq-OVERLAP_CLASSIFICATION_CODE : goal.returns-then-c-eq-OVERLAP_CLASSIFICATION_CODE
unfolding cleared_of
returns-then-c-eq-OVERLAP_CLASSIFICATION_CODE c = search tests

pub returns : goal.returns
unfolding cleared_of
returns c = search tests
