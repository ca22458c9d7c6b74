use Rattle.capi.proofs.las_flags_eq.Goals as goal

pub returns : goal.returns
returns c = cc
