-- Laws of the rules of records: that they hold is that each record ends where it must and that the allowance is enough.
use Rattle.std.specs.Prelude.{ℕ, zero, suc, ◌+◌, ◌≤◌, ◌<◌, Bool, List, length, drop}
use Rattle.std.proofs.Common.{arith, lt-ltb, le-leb, ltb-true, leb-true}
use Rattle.vlr.specs.Layout.{head_size}
use Rattle.vlr.specs.Vlr.{record_size}
use Rattle.vlr.specs.Laws.{head-within}
use Rattle.rules.specs.Rules.{record_rules}
use Rattle.rules.specs.First.{All}

-- k records one after the other at the start of `rest`, each ending in it
abbrev pub Run : Bool → ℕ → List ℕ → Type 0
Run extended zero rest = Unit
Run extended (suc k) rest = (record_size extended rest ≤ length rest) × Run extended k (drop (record_size extended rest) rest)

-- the rules of records, and back
pub records_hold : (x : Bool) (a n k : ℕ) (rest : List ℕ) → n ≤ a → All (record_rules x a n k rest) → (n + k ≤ a) × Run x k rest
unfolding record_rules
records_hold x a n zero rest h all = (omega arith, tt)
records_hold x a n (suc k) rest h (allowed, (head, (whole, others))) =
    let more : n < a = ltb-true n a allowed in
    let later = records_hold x a (suc n) k (drop (record_size x rest) rest) (omega arith) others in
    (omega (arith, later.0), (leb-true _ _ whole, later.1))

pub records_all : (x : Bool) (a n k : ℕ) (rest : List ℕ) → n + k ≤ a → Run x k rest → All (record_rules x a n k rest)
unfolding record_rules
records_all x a n zero rest h run = tt
records_all x a n (suc k) rest h (whole, run) =
    (lt-ltb n a (omega arith), (le-leb (head_size x) (length rest) (omega (arith, head-within x rest)), (le-leb _ _ whole, records_all x a (suc n) k (drop (record_size x rest) rest) (omega arith) run)))
