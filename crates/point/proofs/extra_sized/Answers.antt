use Prim.Native.Nat.{◌-◌}
use mathlib.Core.Path.{◌≡◌}
use borrow.Author.Tests.{lt-ltb, le-ltb}
use native.Mathlib.Omega.{arith}
use Rattle.format.specs.declared.Field.TheVariants.{ExtraBytes}
use Rattle.format.specs.Fields.{place_of}
use Rattle.format.specs.Laws.{record_end}
use Rattle.layout.specs.Placed.{placed}
use Rattle.point.proofs.extra_sized.Goals as goal
use Rattle.point.proofs.extra_sized.Goals.{After-places_for-at}

-- The part from the table's place for the extra bytes to the record's end is as long as the format says.
last : (c : After-places_for-at) → c.places_for-at.result.extra_bytes ≡ place_of c.args.format ExtraBytes
last c = (placed c.args.format c.places_for-at.ensures).extra

pub returns-then-s-n : goal.returns-then-s-n
returns-then-s-n c = rw (lt-ltb _ _ c.if-s-n.true)

pub slice_bounds-result-count : goal.slice_bounds-result-count
slice_bounds-result-count c = omega (arith, last c, record_end c.args.format)

pub slice_bounds-result-start : goal.slice_bounds-result-start
slice_bounds-result-start c = omega (arith, last c, record_end c.args.format)

pub returns : goal.returns
returns c =
    let a = c.args in
    let n : a.n - place_of a.format ExtraBytes ≡ a.format.extra_bytes = omega (arith, record_end a.format) in
    rw (last (goal.at.returns c).After-places_for-at, le-ltb _ _ c.if-s-n.false, n)
