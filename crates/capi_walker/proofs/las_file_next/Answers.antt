use Rattle.std.specs.Prelude.{Result, Ok}
use Rattle.point.specs.declared.Point.{Point}
use Rattle.refusal.specs.declared.Refused.{Refused}
use mathlib.Core.Path.{◌≡◌, sym, ap, ◌∙◌}
use borrow.Author.Tests.{eq-eqb, ne_eqb}
use Rattle.walker.specs.declared.Place.{Place}
use Rattle.walker.specs.declared.Took.{Took}
use Rattle.walker.specs.Walk.{took_of}
use Rattle.walker.specs.Laws.{start_kept}
use Rattle.capi_walker.specs.Rows.{start_row, place_with, with-start, place_from, took_row, next_row}
use Rattle.capi_walker.proofs.las_file_next.Goals as goal
use Rattle.capi_walker.proofs.las_file_next.Goals.{After-take_at-took}

pub returns-then-place-ne0 : goal.returns-then-place-ne0
unfolding next_row
returns-then-place-ne0 c =
    let a = c.args in
    rw (ne_eqb _ _ c.if-place-ne0.true) (λ i. (a.place.now, c.tell.ensures i, a.numbers.now))

-- a step is what is taken, by its answer
took : (c : After-take_at-took) → let a = c.args in let t = c.take_at-took.result in next_row a.file.now a.place.now a.numbers.now ≡ took_row a.place.now a.numbers.now t.answer t.next
unfolding next_row
took c =
    let a = c.args in
    rw (eq-eqb _ _ c.if-place-ne0.false)
    (ap (λ (x : Took). took_row a.place.now a.numbers.now x.answer x.next) (sym (c.take_at-took.ensures ∙ ap (took_of a.file.now) c.place_from.ensures)))

-- and leaves the walk an accepted one
still-accepted : (c : After-take_at-took) → c.take_at-took.result.next.start ≡ (Ok tt)
unfolding place_from
still-accepted c =
    let a = c.args in
    let p = c.place_from in
    ap (λ (x : Took). x.next.start) c.take_at-took.ensures ∙ start_kept a.file.now p.result ∙ ap (λ (x : Place). x.start) p.ensures

pub returns-in-Ok : goal.returns-in-Ok
returns-in-Ok c =
    let a = c.args in
    let x = (goal.at.returns-in-Ok c).After-take_at-took in
    let next = c.take_at-took.result.next in
    let place = c.numbers_with.ensures ∙ ap (place_with next) (c.accepted.ensures ∙ ap start_row (sym (still-accepted x))) ∙ with-start next in
    (λ i. (place i, c.tell-in-Ok.ensures i, c.numbers_of.ensures i))
    ∙ ap (λ (x : Result Point Refused). took_row a.place.now a.numbers.now x next) (sym c.in-Ok.is) ∙ sym (took x)

pub returns-in-Err : goal.returns-in-Err
returns-in-Err c =
    let a = c.args in
    (λ i. (a.place.now, c.refuse.ensures i, a.numbers.now))
    ∙ ap (λ (x : Result Point Refused). took_row a.place.now a.numbers.now x c.take_at-took.result.next) (sym c.in-Err.is) ∙ sym (took (goal.at.returns-in-Err c).After-take_at-took)
