use Rattle.format.specs.Codes.{is_in, coded, first_with, code_by}
use Rattle.format.proofs.Lacking.{timeless_waveform}
use Rattle.format.proofs.legacy_code.Goals as goal

-- What each arm has told is put into the definition, which then computes.
pub returns-in-false-false-false : goal.returns-in-false-false-false
unfolding is_in coded first_with code_by
returns-in-false-false-false c = rw (c.in-false-false-false.is-0, c.in-false-false-false.is-1, c.in-false-false-false.is-2)

pub returns-in-false-true-false : goal.returns-in-false-true-false
unfolding is_in coded first_with code_by
returns-in-false-true-false c = rw (c.in-false-true-false.is-0, c.in-false-true-false.is-1, c.in-false-true-false.is-2)

pub returns-in-false-false-true : goal.returns-in-false-false-true
unfolding is_in coded first_with code_by
returns-in-false-false-true c = rw (c.in-false-false-true.is-0, c.in-false-false-true.is-1, c.in-false-false-true.is-2)

pub returns-in-false-true-true : goal.returns-in-false-true-true
unfolding is_in coded first_with code_by
returns-in-false-true-true c = rw (c.in-false-true-true.is-0, c.in-false-true-true.is-1, c.in-false-true-true.is-2)

pub returns-in-true-true-false : goal.returns-in-true-true-false
unfolding is_in coded first_with code_by
returns-in-true-true-false c = rw (c.in-true-true-false.is-0, c.in-true-true-false.is-1, c.in-true-true-false.is-2)

pub returns-in-true-true-true : goal.returns-in-true-true-true
unfolding is_in coded first_with code_by
returns-in-true-true-true c = rw (c.in-true-true-true.is-0, c.in-true-true-true.is-1, c.in-true-true-true.is-2)

pub returns-in-true-false-default : goal.returns-in-true-false-default
unfolding is_in coded first_with code_by
returns-in-true-false-default c = rw (c.in-true-false-default.is-0, c.in-true-false-default.is-1) (timeless_waveform c.args.color)
