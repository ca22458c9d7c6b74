use mathlib.Core.Path.{◌≡◌, sym, ◌∙◌}
use native.Mathlib.Omega.{arith}
use Rattle.format.specs.Fields.{record_bytes}
use Rattle.format.specs.Length.{len_is, len_over}
use Rattle.file.proofs.beyond.Goals as goal
use Rattle.file.proofs.beyond.Goals.{In-Ok}

-- no u16 is longer than an overlong format
pub returns-in_default : goal.returns-in_default
returns-in_default c =
    omega (arith, len_over c.args.format _ (sym c.len.ensures ∙ c.in_default.is), c.ranges)

-- the length that was found is the format's
own : (c : In-Ok) → c.in-Ok.n ≡ record_bytes c.args.format
own c = len_is c.args.format _ (sym c.len.ensures ∙ c.in-Ok.is)

pub returns-then-record_length-n : goal.returns-then-record_length-n
returns-then-record_length-n c = omega (arith, own (goal.at.returns-then-record_length-n c).In-Ok)

pub returns : goal.returns
returns c = omega (arith, own (goal.at.returns c).In-Ok)
