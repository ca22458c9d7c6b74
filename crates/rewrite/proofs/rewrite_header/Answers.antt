use Prim.Native.Nat.{ℕ}
use mathlib.Core.Path.{◌≡◌, ap, sym, ◌∙◌}
use native.Mathlib.Omega.{arith}
use Rattle.header.specs.declared.Header.{Header}
use Rattle.header.specs.Judged.{padding_of}
use Rattle.header.specs.Answers.{read_whole, header_is}
use Rattle.header_write.specs.Wrote.{wrote_of}
use Rattle.rewrite.proofs.Laid.{header_laid}
use Rattle.rewrite.proofs.rewrite_header.Goals as goal

-- a whole header is not refused
pub returns-in_default : goal.returns-in_default
returns-in_default c =
    let is = sym (read_whole c.args.src.now c.requires.0.1) ∙ sym c.read_from.ensures ∙ c.in_default.is in
    let z : ◌≡◌ {A = ℕ} 0 1 = cc in
    absurd (omega arith)

pub returns : goal.returns
returns c =
    let s = c.args.src.now in
    header_laid s c.args.dst.now c.requires.1 c.requires.0 (λ k. omega (arith, c.shared_slice_known-1.given k))
    ((rw c.padding.ensures at c.write_to.ensures) ∙ ap (λ (h : Header). wrote_of h (padding_of s) c.args.dst.now) (header_is s (sym c.read_from.ensures ∙ c.in-Ok.is)))
