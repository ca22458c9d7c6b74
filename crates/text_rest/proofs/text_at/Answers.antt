use Prim.Native.Nat.{◌+◌, ◌-◌}
use mathlib.Core.Path.{◌≡◌, sym, ◌∙◌}
use native.Mathlib.Omega.{arith}
use lib.ListN.{length, drop, length-drop, drop_of_length-le}
use lib.Seq.{take-nil, take_all}
use Rattle.text_rest.proofs.text_at.Goals as goal

pub returns-then-s-at : goal.returns-then-s-at
returns-then-s-at c =
    let a = c.args in
    rw (drop_of_length-le a.s.now {i = a.at} (omega arith)) (sym (take-nil a.width))

pub returns-then-s-from : goal.returns-then-s-from
returns-then-s-from c =
    let a = c.args in
    let rest = drop a.at a.s.now in
    take_all (length a.s.now - a.at) rest (simp length-drop (omega arith)) ∙ sym (take_all a.width rest (simp length-drop (omega arith)))

pub returns : goal.returns
returns c =
    let a = c.args in
    let e : a.at + a.width - a.at ≡ a.width = omega arith in
    rw e
