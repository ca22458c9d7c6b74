use Rattle.capi.proofs.las_angle_eq.Goals as goal

pub returns : goal.returns
returns c = cc
