use Rattle.point.specs.Read.{maybe_waveform_at}
use Rattle.point.proofs.Parts.{waveform_part}
use Rattle.point.proofs.waveform_at.Goals as goal

pub part_at-part-requires : goal.part_at-part-requires
part_at-part-requires c = rw c.if-has.true at c.requires

pub returns-then-has : goal.returns-then-has
unfolding maybe_waveform_at
returns-then-has c =
    let a = c.args in
    rw (c.read_from.ensures, c.part_at-part.ensures, waveform_part a.at a.s.now, c.if-has.true)

pub returns : goal.returns
unfolding maybe_waveform_at
returns c = rw c.if-has.false
