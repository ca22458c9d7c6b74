use Rattle.std.specs.Prelude.{Result, Ok}
use Rattle.refusal.specs.declared.Refusal.{Refusal}
use mathlib.Core.Path.{◌≡◌, ap, sym, ◌∙◌}
use Rattle.header_convert.specs.Turned.{old_header, old_goes, turned_by, old_turned}
use Rattle.header_convert.specs.Goes.{goes_down}
use Rattle.header_convert.proofs.to_old.Goals as goal
use Rattle.header_convert.proofs.to_old.Goals.{In-Ok}

-- what the question answered
asked : (c : In-Ok) → old_goes c.args.header ≡ Ok tt
asked c = sym c.ask_old.ensures ∙ c.in-Ok.is

pub returns-in-Ok : goal.returns-in-Ok
unfolding old_turned
returns-in-Ok c =
    let h = c.args.header in
    c.old_header.ensures ∙ ap (λ (g : Result Unit Refusal). turned_by g (old_header h) h) (sym (asked (goal.at.returns-in-Ok c).In-Ok))

pub returns-in-Err : goal.returns-in-Err
unfolding old_turned
returns-in-Err c =
    let h = c.args.header in
    ap (λ (g : Result Unit Refusal). turned_by g (old_header h) h) (sym c.in-Err.is ∙ c.ask_old.ensures)

pub old_header-requires : goal.old_header-requires
old_header-requires c = (goes_down _ (asked c)).fits
