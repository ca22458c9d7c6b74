use Prim.Native.Nat.{◌<◌, ◌^◌}
use native.Mathlib.Omega.{arith}
use borrow.Author.Rules.{rules}
use Rattle.sectors.specs.Sectors.{point_stores, stores_of}
use Rattle.sectors.proofs.stores.Goals as goal

pub overflow_add-result : goal.overflow_add-result
unfolding point_stores
overflow_add-result c =
    let w = c.args.sweep in
    let fits : (w.at < 2 ^ 64) × (w.bytes < 2 ^ 64) = search rules in
    omega (arith, c.point_stores.ensures)

pub returns : goal.returns
unfolding stores_of
returns c = omega (arith, c.point_stores.ensures)
