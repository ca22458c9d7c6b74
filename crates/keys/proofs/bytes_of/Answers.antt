use Prim.Native.Nat.{◌+◌, ◌-◌}
use mathlib.Core.Path.{◌≡◌, ap, sym, ◌∙◌}
use native.Mathlib.Omega.{arith}
use lib.ListN.{length, take, drop, length-drop, drop_of_length-le}
use lib.Seq.{take-nil, take_all}
use Rattle.keys.proofs.bytes_of.Goals as goal

pub returns-then-file-start : goal.returns-then-file-start
returns-then-file-start c =
    let a = c.args in
    sym (ap (take a.length) (drop_of_length-le a.file.now {i = a.start} (omega arith)) ∙ take-nil a.length)

pub returns-then-file-start-2 : goal.returns-then-file-start-2
returns-then-file-start-2 c =
    let a = c.args in
    let rest = drop a.start a.file.now in
    take_all (length a.file.now - a.start) rest (simp length-drop (omega arith)) ∙ sym (take_all a.length rest (simp length-drop (omega arith)))

pub returns : goal.returns
returns c =
    let a = c.args in
    let all : a.start + a.length - a.start ≡ a.length = omega arith in
    rw all
