use Prim.Native.Nat.{◌+◌, ◌-◌, ◌*◌}
use mathlib.Core.Path.{◌≡◌}
use lib.ListN.{length, drop}
use lib.Seq.{sets}
use Rattle.rewrite.specs.Back.{points_back}
use Rattle.rewrite.proofs.rewrite_points.Given as goal

-- The invariant is over what is left: laid from here on, it makes of the destination what is promised.
abbrev pub invariant-loop : goal.invariant-loop
invariant-loop l =
    (l.at + (l.count - l.counter) * l.record_length ≡ length l.src) × (length l.dst ≡ length l.initial.dst) × (sets l.dst l.at (points_back l.format l.record_length (l.count - l.counter) (drop l.at l.src)) ≡ sets l.initial.dst 0 (points_back l.format l.record_length l.count l.src))
