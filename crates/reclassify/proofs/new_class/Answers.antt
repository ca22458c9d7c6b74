use Rattle.std.specs.Prelude.{Ok}
use Rattle.reclassify.proofs.new_class.Goals as goal

pub returns : goal.returns
returns c = let a = c.args in λ i. Ok (record { at = a.at; byte = a.class; class = c.u8_at-byte.ensures i })
