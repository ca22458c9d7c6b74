use Rattle.points_main.proofs.walk.Given as goal

-- the points that are left
abbrev pub decreases-loop : goal.decreases-loop
decreases-loop l = l.walker.place.left
