use Prim.Native.Nat.{◌+◌, ◌*◌, ◌≤◌, ◌-◌}
use mathlib.Core.Path.{◌≡◌}
use lib.ListN.{length, drop}
use lib.Seq.{sets}
use Rattle.directory_write.specs.Written.{number_bytes}
use Rattle.directory_write.proofs.store_numbers.Given as goal

-- The invariant is over what is left: the numbers from here on, stored from here on, leave what is to be left.
abbrev pub invariant-loop-number : goal.invariant-loop-number
invariant-loop-number l =
    (l.number-index ≤ length l.numbers) × (l.to ≡ l.at + 2 * l.number-index) × (length l.dst ≡ length l.initial.dst)
    × (sets l.dst l.to (number_bytes (drop l.number-index l.numbers)) ≡ sets l.initial.dst l.at (number_bytes l.numbers))

abbrev pub decreases-loop-number : goal.decreases-loop-number
decreases-loop-number l = length l.numbers - l.number-index
