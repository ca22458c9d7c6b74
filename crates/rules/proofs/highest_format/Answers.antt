use Rattle.refusal.proofs.Tests.{tests}
use Rattle.rules.specs.Rules.{highest_format}
use Rattle.rules.proofs.highest_format.Goals as goal

pub returns-then-minor-lt2 : goal.returns-then-minor-lt2
unfolding highest_format
returns-then-minor-lt2 c = search tests

pub returns-then-minor-lt3 : goal.returns-then-minor-lt3
unfolding highest_format
returns-then-minor-lt3 c = search tests

pub returns-then-minor-lt4 : goal.returns-then-minor-lt4
unfolding highest_format
returns-then-minor-lt4 c = search tests

pub returns : goal.returns
unfolding highest_format
returns c = search tests
