use mathlib.Core.Path.{◌≡◌, sym}
use Rattle.refusal.proofs.Tests.{tests}
use Rattle.strict.specs.Fit.{overlap_goes, readings_fit}
use Rattle.strict.proofs.check_readings.Goals as goal
use Rattle.strict.proofs.check_readings.Goals.{After-overlap_goes}

pub returns-then-return_number-gt7 : goal.returns-then-return_number-gt7
unfolding readings_fit
returns-then-return_number-gt7 c = search tests

pub returns-then-number_of_returns-gt7 : goal.returns-then-number_of_returns-gt7
unfolding readings_fit
returns-then-number_of_returns-gt7 c = search tests

pub returns-then-class-gt31 : goal.returns-then-class-gt31
unfolding readings_fit
returns-then-class-gt31 c = search tests

pub returns-then-scanner_channel-gt0 : goal.returns-then-scanner_channel-gt0
unfolding readings_fit
returns-then-scanner_channel-gt0 c = search tests

-- what the last test asked of its callee
goes : (c : After-overlap_goes) → overlap_goes c.args.overlap c.args.class ≡ c.overlap_goes.result
goes c = sym c.overlap_goes.ensures

pub returns-then-overlap_goes : goal.returns-then-overlap_goes
unfolding readings_fit
returns-then-overlap_goes c = search (tests, goes (goal.at.returns-then-overlap_goes c).After-overlap_goes, c.if-overlap_goes.true)

pub returns : goal.returns
unfolding readings_fit
returns c = search (tests, goes (goal.at.returns c).After-overlap_goes, c.if-overlap_goes.false)
