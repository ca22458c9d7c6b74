use Prim.Native.Nat.{◌-◌}
use mathlib.Core.Path.{◌≡◌, sym, ◌∙◌}
use native.Mathlib.Omega.{arith}
use lib.ListN.{length, drop, length-drop, drop_of_length-le}
use lib.Seq.{take-nil, take_all}
use Rattle.cursor.proofs.part_of.Goals as goal

pub returns-then-to-from : goal.returns-then-to-from
returns-then-to-from c =
    let a = c.args in
    let none : a.to - a.from ≡ 0 = omega arith in
    rw none

pub returns-then-len-from : goal.returns-then-len-from
returns-then-len-from c =
    let a = c.args in
    rw (drop_of_length-le a.file.now {i = a.from} (omega arith), take-nil)

pub returns : goal.returns
returns c =
    let a = c.args in
    let rest = drop a.from a.file.now in
    take_all (length a.file.now - a.from) rest (simp length-drop (omega arith)) ∙ sym (take_all (a.to - a.from) rest (simp length-drop (omega arith)))
