use Rattle.rewrite.specs.Back.{part_back}
use Rattle.rewrite.specs.Asked.{PartIs}
use Rattle.rewrite.proofs.rewrite_part.Goals as goal

-- Kind by kind, what is asked of the part and what stands for it are those of the kind's own function.
pub rewrite_header-requires : goal.rewrite_header-requires
unfolding PartIs
rewrite_header-requires c = (rw c.in-Header.is at c.requires.0, c.requires.1)

pub rewrite_vlr-requires : goal.rewrite_vlr-requires
unfolding PartIs
rewrite_vlr-requires c = (rw c.in-Vlr.is at c.requires.0, c.requires.1)

pub rewrite_vlr-requires-in-Evlr : goal.rewrite_vlr-requires-in-Evlr
unfolding PartIs
rewrite_vlr-requires-in-Evlr c = (rw c.in-Evlr.is at c.requires.0, c.requires.1)

pub rewrite_vlr-requires-in-Waveform : goal.rewrite_vlr-requires-in-Waveform
unfolding PartIs
rewrite_vlr-requires-in-Waveform c = (rw c.in-Waveform.is at c.requires.0, c.requires.1)

pub rewrite_points-requires : goal.rewrite_points-requires
unfolding PartIs
rewrite_points-requires c =
    let p = rw c.in-Points.is at c.requires.0 in
    ((rw c.point_format.ensures p.0, p.1), c.requires.1)

pub returns-in-Header : goal.returns-in-Header
unfolding part_back
returns-in-Header c = rw c.in-Header.is c.rewrite_header.ensures

pub returns-in-Vlr : goal.returns-in-Vlr
unfolding part_back
returns-in-Vlr c = rw c.in-Vlr.is c.rewrite_vlr.ensures

pub returns-in-Gap : goal.returns-in-Gap
unfolding part_back
returns-in-Gap c = rw c.in-Gap.is c.copy_gap.ensures

pub returns-in-Points : goal.returns-in-Points
unfolding part_back
returns-in-Points c =
    rw (c.in-Points.is, ← c.point_format.ensures) c.rewrite_points.ensures

pub returns-in-Evlr : goal.returns-in-Evlr
unfolding part_back
returns-in-Evlr c = rw c.in-Evlr.is c.rewrite_vlr-in-Evlr.ensures

pub returns-in-Waveform : goal.returns-in-Waveform
unfolding part_back
returns-in-Waveform c = rw c.in-Waveform.is c.rewrite_vlr-in-Waveform.ensures
