use Rattle.std.proofs.lemmas.Result.{err_from_is_err_and}
use Rattle.std.specs.Prelude.{ℕ, Result}
use Rattle.rules.specs.declared.NotAccepted.{NotAccepted}
use Prim.Native.Nat.{◌≤◌}
use mathlib.Core.Path.{◌≡◌, ap, sym, subst, ◌∙◌}
use lib.ListN.{length}
use Rattle.header.specs.Judged.{header_in}
use Rattle.outline.specs.declared.Outline.{Outline}
use Rattle.outline.specs.Outline.{outline_of}
use Rattle.extents.specs.Extents.{points_end}
use Rattle.file.specs.Theorems.{accepted-holds}
use Rattle.file.specs.Opened.{opened-accepted, opened-refused}
use Rattle.reclassify.specs.Reclassify.{asked_in, asked_by, asked_of}
use Rattle.reclassify.proofs.ask.Goals as goal
use Rattle.reclassify.proofs.ask.Goals.{After-of}

-- the outline is that of the file's header
outline : (c : After-of) → c.of.result ≡ outline_of (header_in c.args.file.now)
outline c = c.of.ensures ∙ ap outline_of (opened-accepted c.args.allowance c.args.file.now (sym c.open.ensures ∙ c.in_ok-header.was)).1

pub ask_point-requires : goal.ask_point-requires
ask_point-requires c =
    let s = c.args.file.now in
    let h = accepted-holds c.args.allowance s (opened-accepted c.args.allowance s (sym c.open.ensures ∙ c.in_ok-header.was)).0 in
    subst (λ (o : Outline). points_end o ≤ length s) (sym (outline c)) h.parts.points-within

pub returns : goal.returns
unfolding asked_of
returns c =
    let a = c.args in
    c.ask_point.ensures
    ∙ ap (λ (o : Outline). asked_in o a.point a.class a.file.now) (outline (goal.at.returns c).After-of)
    ∙ ap (λ (k : Result ℕ NotAccepted). asked_by k a.point a.class a.file.now) (sym (opened-accepted a.allowance a.file.now (sym c.open.ensures ∙ c.in_ok-header.was)).0)

pub returns-in_err-header : goal.returns-in_err-header
unfolding asked_of
returns-in_err-header c =
    let a = c.args in
    let p = err_from_is_err_and c.from_residual.result c.from_residual.ensures.1 in
    rw (p.1, p.2) (ap (λ (k : Result ℕ NotAccepted). asked_by k a.point a.class a.file.now) (sym (opened-refused a.allowance a.file.now (sym c.open.ensures ∙ c.in_err-header.was))))
