use Rattle.cursor.proofs.step_points.Goals as goal

pub returns : goal.returns
returns c = rw (← c.distance.ensures) c.told.ensures
