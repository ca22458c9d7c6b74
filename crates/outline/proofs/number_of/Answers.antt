use Rattle.outline.proofs.number_of.Goals as goal

pub returns-then-waveform : goal.returns-then-waveform
returns-then-waveform c = rw c.if-waveform.true
