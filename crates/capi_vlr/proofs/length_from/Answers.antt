use mathlib.Core.Path.{◌≡◌, ap, sym, ◌∙◌}
use mathlib.Core.Bool.{Bool, false}
use native.Mathlib.Omega.{arith}
use borrow.Author.Tests.{ltb-false}
use lib.Dec.{ltb}
use Rattle.capi_vlr.specs.Rows.{overlong}
use Rattle.capi_vlr.proofs.length_from.Goals as goal

-- a VLR's length has 16 bits
pub overflow_cast-result : goal.overflow_cast-result
overflow_cast-result c =
    let n = c.args.n in
    let short : ltb 65535 n ≡ false = ap (λ (b : Bool). overlong b n) (sym c.if-extended.false) ∙ c.requires in
    omega (arith, ltb-false 65535 n short)

pub returns-then-extended : goal.returns-then-extended
returns-then-extended c = rw c.if-extended.true

pub returns-else-extended : goal.returns-else-extended
returns-else-extended c = rw c.if-extended.false
