use Prim.Native.Nat.{ℕ}
use mathlib.Core.Path.{ap, ◌∙◌}
use lib.Seq.{sets}
use Rattle.le.specs.Le.{bytes}
use Rattle.header_write.proofs.set_f64.Goals as goal

pub returns : goal.returns
returns c =
    let a = c.args in
    c.set_u64.ensures ∙ ap (λ (n : ℕ). sets a.d.now a.at (bytes 8 n)) c.to_bits.ensures
