use Rattle.std.specs.Prelude.{Ok}
use Prim.Native.Nat.{◌+◌, ◌*◌, ◌/◌, ◌%◌}
use Rattle.reclassify.proofs.old_class.Goals as goal

pub returns : goal.returns
returns c = let a = c.args in λ i. let b = c.u8_at-byte.ensures i in Ok (record { at = a.at; byte = b / 32 * 32 + a.class; class = b % 32 })
