use Prim.Native.Nat.{◌+◌, ◌≤◌, ◌<◌}
use mathlib.Core.Path.{◌≡◌}
use borrow.Author.Tests.{lt-ltb, le-ltb}
use native.Mathlib.Omega.{arith}
use Rattle.format.specs.Fields.{len_of, record_bytes}
use Rattle.format.specs.Laws.{record_sum}
use Rattle.format.proofs.Format.len.Goals as goal
use Rattle.format.proofs.Format.len.Goals.{After-when-5}

-- What the five calls answered makes up the sum of the field table.
total : (c : After-when-5) → record_bytes c.args.self ≡ 20 + c.when.result + c.when-2.result + c.when-3.result + c.when-4.result + c.when-5.result + c.args.self.extra_bytes
total c = omega (arith, record_sum c.args.self)

pub returns-then-n-gt65535 : goal.returns-then-n-gt65535
unfolding len_of
returns-then-n-gt65535 c =
    let over : 65535 < record_bytes c.args.self = omega (arith, total (goal.at.returns-then-n-gt65535 c).After-when-5) in
    rw (lt-ltb _ _ over, total (goal.at.returns-then-n-gt65535 c).After-when-5)

pub returns : goal.returns
unfolding len_of
returns c =
    let within : record_bytes c.args.self ≤ 65535 = omega (arith, total (goal.at.returns c).After-when-5) in
    rw (le-ltb _ _ within, total (goal.at.returns c).After-when-5)
