use Rattle.std.proofs.lemmas.Result.{err_from_is_err_and}
use Rattle.std.specs.Prelude.{ℕ, Result}
use Rattle.rules.specs.declared.NotAccepted.{NotAccepted}
use mathlib.Core.Path.{ap, sym, subst, ◌∙◌}
use borrow.Author.Rules.{rules}
use Rattle.header.specs.declared.Header.{Header}
use Rattle.header.specs.Judged.{header_in}
use Rattle.file.specs.Points.{format_len}
use Rattle.file.specs.Theorems.{accepted-holds}
use Rattle.file.specs.Opened.{opened-accepted, opened-refused}
use Rattle.offer.specs.Offer.{offered, offer_by, offer_of}
use Rattle.offer.specs.Steps.{Ready}
use Rattle.offer.proofs.judge.Goals as goal
use Rattle.offer.proofs.judge.Goals.{In_ok-header}

-- the header of an accepted file
ready : (c : In_ok-header) → Ready (header_in c.args.file.now) c.args.file.now
ready c =
    let h = accepted-holds c.args.allowance c.args.file.now (opened-accepted c.args.allowance c.args.file.now (sym c.open.ensures ∙ c.in_ok-header.was)).0 in
    record { long = format_len c.args.allowance c.args.file.now h (search rules); within = h.parts.points-within }

pub judge_version-requires : goal.judge_version-requires
judge_version-requires c =
    let o = opened-accepted c.args.allowance c.args.file.now (sym c.open.ensures ∙ c.in_ok-header.was) in
    subst (λ (h : Header). Ready h c.args.file.now) (sym o.1) (ready (goal.at.judge_version-requires c).In_ok-header)

pub returns : goal.returns
unfolding offer_of
returns c =
    let a = c.args in
    let o = opened-accepted a.allowance a.file.now (sym c.open.ensures ∙ c.in_ok-header.was) in
    c.judge_version.ensures
    ∙ ap (λ (h : Header). offered h a.records.now a.n a.believed a.file.now) o.1
    ∙ ap (λ (k : Result ℕ NotAccepted). offer_by k a.records.now a.n a.believed a.file.now) (sym o.0)

pub returns-in_err-header : goal.returns-in_err-header
unfolding offer_of
returns-in_err-header c =
    let a = c.args in
    let p = err_from_is_err_and c.from_residual.result c.from_residual.ensures.1 in
    rw (p.1, p.2) (ap (λ (k : Result ℕ NotAccepted). offer_by k a.records.now a.n a.believed a.file.now) (sym (opened-refused a.allowance a.file.now (sym c.open.ensures ∙ c.in_err-header.was))))
