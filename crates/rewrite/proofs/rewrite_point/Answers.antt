use Prim.Native.Nat.{ℕ}
use mathlib.Core.Path.{◌≡◌, sym, ◌∙◌}
use native.Mathlib.Omega.{arith}
use Rattle.point.specs.Answer.{whole_read}
use Rattle.rewrite.proofs.Laid.{point_laid}
use Rattle.rewrite.proofs.rewrite_point.Goals as goal

-- a whole record is not refused
pub returns-in_default : goal.returns-in_default
returns-in_default c =
    let is = sym (whole_read c.args.format c.args.src.now c.requires.0) ∙ sym c.read_from.ensures ∙ c.in_default.is in
    let z : ◌≡◌ {A = ℕ} 0 1 = cc in
    absurd (omega arith)

pub returns : goal.returns
returns c =
    point_laid c.args.src.now c.args.dst.now c.requires.1 c.args.format c.requires.0 (λ k. omega (arith, c.shared_slice_known-1.given k)) (sym c.read_from.ensures ∙ c.in-Ok.is)
    (rw c.extra_bytes.ensures at c.write_to.ensures)
