use Rattle.refusal.proofs.Tests.{tests}
use Rattle.header.specs.Header.{evlr_of}
use Rattle.header.proofs.evlr_of.Goals as goal

pub returns-then-start_of_first_evlr-eq0 : goal.returns-then-start_of_first_evlr-eq0
unfolding evlr_of
returns-then-start_of_first_evlr-eq0 c = search tests

pub returns-then-number_of_evlrs-eq0 : goal.returns-then-number_of_evlrs-eq0
unfolding evlr_of
returns-then-number_of_evlrs-eq0 c = search tests

pub returns : goal.returns
unfolding evlr_of
returns c = search tests
