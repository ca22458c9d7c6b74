use Rattle.cursor.specs.Parts.{later_kind}
use Rattle.cursor.proofs.later_kind.Goals as goal

pub returns-then-waveform : goal.returns-then-waveform
unfolding later_kind
returns-then-waveform c = rw c.if-waveform.true

pub returns : goal.returns
unfolding later_kind
returns c = rw c.if-waveform.false
