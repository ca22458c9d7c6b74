use Prim.Native.Nat.{◌+◌, ◌≤◌}
use native.Mathlib.Omega.{arith}
use borrow.Author.Tests.{le-leb, lt-leb}
use Rattle.directory.specs.Directory.{bytes_of}
use Rattle.directory.specs.Laws.{bytes-add}
use Rattle.keys.specs.Keys.{part_of}
use Rattle.keys.proofs.part_of.Goals as goal
use Rattle.keys.proofs.part_of.Goals.{Else-len-base-2}

pub returns-then-len-base : goal.returns-then-len-base
unfolding part_of
returns-then-len-base c =
    let a = c.args in
    rw (lt-leb (a.base + bytes_of a.entry.location (a.entry.index + a.entry.count)) a.len (omega arith))

pub returns-then-len-base-2 : goal.returns-then-len-base-2
unfolding part_of
returns-then-len-base-2 c =
    let a = c.args in
    rw (lt-leb (a.base + bytes_of a.entry.location (a.entry.index + a.entry.count)) a.len (omega (arith, c.bytes-all.ensures)))

-- what is tested last says that all of it lies in the file
ends : (x : Else-len-base-2) → (let a = x.args in a.base + bytes_of a.entry.location (a.entry.index + a.entry.count) ≤ a.len)
ends x = omega (arith, x.bytes-all.ensures)

pub overflow_add-result : goal.overflow_add-result
overflow_add-result c =
    let a = c.args in
    record { fits = omega (arith, ends (goal.at.overflow_add-result c).Else-len-base-2, c.bytes.ensures, bytes-add a.entry.location a.entry.index a.entry.count) }

pub returns : goal.returns
unfolding part_of
returns c =
    rw (le-leb _ _ (ends (goal.at.returns c).Else-len-base-2), c.bytes.ensures, c.bytes-2.ensures)
