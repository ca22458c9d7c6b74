use Prim.Native.Nat.{ℕ}
use mathlib.Core.Path.{◌≡◌, ap, sym, ◌∙◌}
use mathlib.Core.Bool.{false}
use native.Mathlib.Omega.{arith}
use Rattle.format.specs.Format.{with_extra}
use Rattle.format.specs.Codes.{coded}
use Rattle.format.specs.Laws.{code-known}
use Rattle.pairs.specs.Pairs.{format_with}
use Rattle.pairs.proofs.with_extra.Goals as goal

-- a code of the standard is not refused
pub returns-in_default : goal.returns-in_default
returns-in_default c =
    let is = sym (code-known c.args.code c.requires) ∙ sym c.new.ensures ∙ c.in_default.is in
    let z : ◌≡◌ {A = ℕ} 0 1 = cc in
    absurd (omega arith)

pub returns : goal.returns
unfolding format_with
returns c =
    let is = sym (code-known c.args.code c.requires) ∙ sym c.new.ensures ∙ c.in-Ok.is in
    let is_coded : c.in-Ok.format ≡ coded c.args.code false = cc in
    ap (with_extra c.args.extra) is_coded
