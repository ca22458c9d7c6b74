use Rattle.std.specs.Prelude.{Result, Ok}
use Rattle.refusal.specs.declared.Refusal.{Refusal}
use mathlib.Core.Path.{◌≡◌, ap, sym, ◌∙◌}
use Rattle.header_convert.specs.Turned.{new_header, new_goes, turned_by, new_turned}
use Rattle.header_convert.specs.Goes.{goes-up}
use Rattle.header_convert.proofs.to_new.Goals as goal
use Rattle.header_convert.proofs.to_new.Goals.{In-Ok}

-- what the question answered
asked : (c : In-Ok) → new_goes c.args.header ≡ Ok tt
asked c = sym c.ask_new.ensures ∙ c.in-Ok.is

pub returns-in-Ok : goal.returns-in-Ok
unfolding new_turned
returns-in-Ok c =
    let h = c.args.header in
    c.new_header.ensures ∙ ap (λ (g : Result Unit Refusal). turned_by g (new_header h) h) (sym (asked (goal.at.returns-in-Ok c).In-Ok))

pub returns-in-Err : goal.returns-in-Err
unfolding new_turned
returns-in-Err c =
    let h = c.args.header in
    ap (λ (g : Result Unit Refusal). turned_by g (new_header h) h) (sym c.in-Err.is ∙ c.ask_new.ensures)

pub new_header-requires : goal.new_header-requires
new_header-requires c = (goes-up _ (asked c)).fits
