use Prim.Native.Nat.{◌-◌}
use mathlib.Core.Path.{◌≡◌, sym, ◌∙◌}
use native.Mathlib.Omega.{arith}
use lib.Seq.{length-take-le}
use lib.ListN.{length, take}
use Rattle.lent.specs.Laws.{tail}
use Rattle.store.specs.Laws.{sets_clip}
use Rattle.store.proofs.set_bytes.Goals as goal

pub returns-then-d-at : goal.returns-then-d-at
returns-then-d-at c =
    let a = c.args in
    let none : length a.d.now - a.at ≡ 0 = omega arith in
    rw none at (sets_clip a.v.now a.d.now a.at)

pub returns-then-v-room : goal.returns-then-v-room
returns-then-v-room c =
    let a = c.args in
    let put = c.put in
    tail a.d.now a.v.now put.new.dst a.at put.result (omega arith) put.ensures

pub slice_bounds-put-end-3 : goal.slice_bounds-put-end-3
slice_bounds-put-end-3 c =
    let a = c.args in
    sym (length-take-le (length a.d.now - a.at) a.v.now (omega arith))

pub returns : goal.returns
returns c =
    let a = c.args in
    let put = c.put-2 in
    let part = take (length a.d.now - a.at) a.v.now in
    let l : length part ≡ length a.d.now - a.at = length-take-le (length a.d.now - a.at) a.v.now (omega arith) in
    tail a.d.now part put.new.dst a.at put.result (omega arith) put.ensures ∙ sets_clip a.v.now a.d.now a.at
