use Rattle.directory.specs.Directory.{passes}
use Rattle.directory.proofs.entry_passes.Goals as goal

pub returns-in-Rising : goal.returns-in-Rising
unfolding passes
returns-in-Rising c = rw (c.is_rising.ensures, c.in-Rising.is)

pub returns-in-Known : goal.returns-in-Known
unfolding passes
returns-in-Known c = rw (c.is_known.ensures, c.entry_at.ensures, c.in-Known.is)

pub returns-in-There : goal.returns-in-There
unfolding passes
returns-in-There c = rw (c.is_there.ensures, c.entry_at-in-There.ensures, c.in-There.is)

pub returns-in-Within : goal.returns-in-Within
unfolding passes
returns-in-Within c = rw (c.is_within.ensures, c.entry_at-in-Within.ensures, c.in-Within.is)
