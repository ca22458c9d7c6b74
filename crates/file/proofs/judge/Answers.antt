use Rattle.std.specs.Prelude.{Ok, Err}
use mathlib.Core.Path.{◌≡◌, sym, ◌∙◌}
use Rattle.file.specs.Opened.{standard_read, checked_read}
use Rattle.file.proofs.judge.Goals as goal

pub returns-in_err-block : goal.returns-in_err-block
returns-in_err-block c =
    let w = standard_read c.args.file.now c.requires in
    let never : Err c.in_err-block.field-0.0 ≡ Ok w.0 = sym c.in_err-block.was ∙ c.header_size.ensures ∙ w.3 in
    absurd cc

pub returns : goal.returns
returns c =
    let a = c.args in
    sym (checked_read a.allowance a.file.now c.requires (sym c.header_size.ensures ∙ c.in_ok-block.was) ∙ rw (← c.of.ensures) (sym c.check.ensures))
