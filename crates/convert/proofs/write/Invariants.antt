use Prim.Native.Nat.{◌+◌, ◌-◌, ◌*◌, ◌≤◌}
use mathlib.Core.Path.{◌≡◌}
use lib.ListN.{length, drop}
use lib.Seq.{sets}
use Rattle.angle.specs.Table.{scaled_table}
use Rattle.convert.specs.Run.{images_of}
use Rattle.convert.specs.Asked.{TakesRun}
use Rattle.convert.proofs.write.Given as goal

-- The invariant is over what is left: laid from here on, it makes of the destination what is promised.
abbrev pub invariant-loop : goal.invariant-loop
invariant-loop l =
    (l.at + (l.count - l.counter) * l.plan.source_length ≤ length l.src) × (l.to + (l.count - l.counter) * l.plan.target_length ≤ length l.dst) × (length l.dst ≡ length l.initial.dst) × TakesRun l.up l.plan (l.count - l.counter) (drop l.at l.src) × (sets l.dst l.to (images_of l.up l.plan (l.count - l.counter) (drop l.at l.src)) ≡ sets l.initial.dst 0 (images_of l.up l.plan l.count l.src)) × (l.table ≡ scaled_table)
