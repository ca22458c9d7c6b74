use mathlib.Core.Path.{◌≡◌, sym, ap, ◌∙◌}
use mathlib.Core.Bool.{false}
use lib.ListN.{get_or}
use Rattle.vlr.specs.declared.Vlr.{Vlr}
use Rattle.vlr.specs.Vlr.{written_of}
use Rattle.words.specs.Rows.{wrote_row, written_row}
use Rattle.capi_vlr.specs.Rows.{overlong, write_row}
use Rattle.capi_vlr.proofs.las_vlr_write.Goals as goal
use Rattle.capi_vlr.proofs.las_vlr_write.Goals.{After-write_to, Else-overlong}

pub returns-then-overlong : goal.returns-then-overlong
unfolding write_row
returns-then-overlong c =
    let a = c.args in
    rw (sym c.overlong.ensures ∙ c.if-overlong.true) (λ i. (c.refuse.ensures i, a.dst.now))

-- a length that fits
fits : (c : Else-overlong) → let a = c.args in overlong a.extended (get_or a.numbers.now 2 0) ≡ false
fits c = sym c.overlong.ensures ∙ c.if-overlong.false

-- what is written then
written : (c : After-write_to) → let a = c.args in written_row (c.write_to.result, c.write_to.new.dst) ≡ write_row a.extended a.numbers.now a.user_id.now a.description.now a.«data».now a.dst.now
unfolding write_row
written c =
    let a = c.args in
    rw (fits (goal.at.After-write_to c).Else-overlong) (ap written_row (c.write_to.ensures ∙ ap (λ (x : Vlr). written_of x a.«data».now a.dst.now) c.vlr_from-vlr.ensures))

pub returns-in-Ok : goal.returns-in-Ok
returns-in-Ok c =
    (λ i. ((c.tell.ensures ∙ ap wrote_row (sym c.in-Ok.is)) i, c.write_to.new.dst)) ∙ written (goal.at.returns-in-Ok c).After-write_to

pub returns-in-Err : goal.returns-in-Err
returns-in-Err c =
    (λ i. ((c.refuse-in-Err.ensures ∙ ap wrote_row (sym c.in-Err.is)) i, c.write_to.new.dst)) ∙ written (goal.at.returns-in-Err c).After-write_to

pub vlr_from-vlr-requires : goal.vlr_from-vlr-requires
vlr_from-vlr-requires c = fits c
