use Rattle.format.specs.Codes.{is_in, coded, first_with, code_by, code_of}
use Rattle.format.proofs.Lacking.{legacy_nir}
use Rattle.format.proofs.Format.to_u8.Goals as goal

pub returns-then-self : goal.returns-then-self
unfolding code_of
returns-then-self c = rw c.if-self.true

pub returns-then-self-3 : goal.returns-then-self-3
unfolding code_of
returns-then-self-3 c = rw (c.if-self.false, c.if-self-2.true, c.if-self-3.true) c.extended_code.ensures

pub returns-then-self-2 : goal.returns-then-self-2
unfolding is_in coded first_with code_by code_of
returns-then-self-2 c = rw (c.if-self.false, c.if-self-2.true, c.if-self-3.false)

pub returns-then-self-4 : goal.returns-then-self-4
unfolding code_of
returns-then-self-4 c = let a = c.args.self in rw (c.if-self.false, c.if-self-2.false, c.if-self-4.true) (legacy_nir a.has_gps_time a.has_color a.has_waveform)

pub returns : goal.returns
unfolding code_of
returns c = rw (c.if-self.false, c.if-self-2.false, c.if-self-4.false) c.legacy_code.ensures
