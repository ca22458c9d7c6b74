use Prim.Native.Nat.{ℕ}
use mathlib.Core.Path.{◌≡◌, sym, ◌∙◌}
use native.Mathlib.Omega.{arith}
use Rattle.vlr.specs.Laws.{read_told}
use Rattle.rewrite.proofs.Laid.{vlr_laid}
use Rattle.rewrite.proofs.rewrite_vlr.Goals as goal

-- a whole record is not refused
pub returns-in_default : goal.returns-in_default
returns-in_default c =
    let is = sym (read_told c.args.extended c.args.src.now c.requires.0) ∙ sym c.read_from.ensures ∙ c.in_default.is in
    let z : ◌≡◌ {A = ℕ} 0 1 = cc in
    absurd (omega arith)

pub returns : goal.returns
returns c =
    vlr_laid c.args.src.now c.args.dst.now c.requires.1 c.args.extended c.requires.0 (λ k. omega (arith, c.shared_slice_known-1.given k)) (sym c.read_from.ensures ∙ c.in-Ok.is)
    (rw c.«data».ensures at c.write_to.ensures)
