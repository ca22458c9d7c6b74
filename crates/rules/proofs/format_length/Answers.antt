use Rattle.std.specs.Prelude.{Ok}
use Prim.Native.Nat.{ℕ}
use mathlib.Core.Path.{◌≡◌, sym, ap, ◌∙◌}
use mathlib.Core.Bool.{false}
use native.Mathlib.Omega.{arith}
use Rattle.format.specs.Codes.{coded}
use Rattle.format.specs.Fields.{len_of}
use Rattle.format.specs.Laws.{code-known}
use Rattle.rules.specs.Rules.{format_bytes}
use Rattle.rules.specs.Laws.{has-length}
use Rattle.rules.proofs.format_length.Goals as goal
use Rattle.rules.proofs.format_length.Goals.{After-len}

-- A code below 11 has a format, whose record is short, so neither else is reached.
pub returns-in_default : goal.returns-in_default
returns-in_default c =
    let p = sym c.in_default.is ∙ c.new.ensures ∙ code-known c.args.f c.requires in
    let z : ◌≡◌ {A = ℕ} 0 1 = cc in
    absurd (omega arith)

-- the length of the format that was made
known : (c : After-len) → c.len.result ≡ Ok (format_bytes c.args.f)
known c =
    let is : Ok c.in-Ok.format ≡ Ok (coded c.args.f false) =
    sym c.in-Ok.is ∙ c.new.ensures ∙ code-known c.args.f c.requires in
    let same : c.in-Ok.format ≡ coded c.args.f false = cc in
    c.len.ensures ∙ ap len_of same ∙ has-length c.args.f

pub returns-in_default-len : goal.returns-in_default-len
returns-in_default-len c =
    let p = sym c.in_default-len.is ∙ known (goal.at.returns-in_default-len c).After-len in
    let z : ◌≡◌ {A = ℕ} 0 1 = cc in
    absurd (omega arith)

pub returns : goal.returns
returns c =
    let p = sym c.in-Ok-len.is ∙ known (goal.at.returns c).After-len in
    cc
