use Rattle.std.specs.Prelude.{Result, Ok, Err}
use Rattle.point.specs.declared.Point.{Point}
use Rattle.refusal.specs.declared.Refused.{Refused}
use Rattle.std.proofs.Common.{◌≡◌, ◌<◌, Bool, true}
use Rattle.walker.specs.declared.Walker.{Walker}
use Rattle.walker.specs.Walk.{next_of}
use Rattle.walker.specs.Nearer.{nearer}
use Rattle.points_main.specs.Walked.{Goes}
use Rattle.points_main.proofs.walk.Goals as goal

-- Where the walk goes on, the walker is nearer to its end: a point brings it there, and a refusal ends the walk.
going : (w y : Walker) (r : Result Point Refused) (more : Bool) → (r, y) ≡ next_of w → Goes r more → more ≡ true → y.place.left < w.place.left
going w y (Ok x) more e goes on = nearer w y x e
going w y (Err err) more e goes on = cc (goes, on)

pub loop-smaller : goal.loop-smaller
loop-smaller c = going c.loop.walker c.next.new.self c.next.result _ c.next.ensures c.in_ok-print_walked.ensures c.if-branch.true
