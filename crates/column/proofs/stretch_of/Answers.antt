use Rattle.std.specs.Prelude.{Result}
use Rattle.std.proofs.Common.{◌≡◌, sym, ap, ◌∙◌, arith}
use Rattle.std.proofs.lemmas.Result.{err_from_is_err_and}
use Rattle.refusal.specs.declared.Refused.{Refused}
use Rattle.walker.specs.declared.Place.{Place}
use Rattle.column.specs.Column.{stretch_by, stretch_of}
use Rattle.column.specs.Stretch.{ends}
use Rattle.column.proofs.stretch_of.Goals as goal
use Rattle.column.proofs.stretch_of.Goals.{After-begin-begun}

-- by what the walker starts from
module _ (m : After-begin-begun) where
  by_start_lem : {x : Result Unit Refused} → m.begin-begun.result.start ≡ x → stretch_by m.begin-begun.result m.args.column m.args.first m.args.count m.args.room x ≡ stretch_of m.args.allowance m.args.column m.args.first m.args.count m.args.room m.args.file.now
  unfolding stretch_of
  by_start_lem e =
      ap (stretch_by m.begin-begun.result m.args.column m.args.first m.args.count m.args.room) (sym e)
      ∙ ap (λ (p : Place). stretch_by p m.args.column m.args.first m.args.count m.args.room p.start) m.begin-begun.ensures

pub returns-in_err-begun : goal.returns-in_err-begun
returns-in_err-begun c =
    let p = err_from_is_err_and c.from_residual.result c.from_residual.ensures.1 in
    rw (p.1, p.2) (by_start_lem (goal.at.returns-in_err-begun c).After-begin-begun c.in_err-begun.was)

pub stretch_in-requires : goal.stretch_in-requires
stretch_in-requires c =
    let end = ends c.args.allowance c.args.file.now (ap (λ (p : Place). p.start) (sym c.begin-begun.ensures) ∙ c.in_ok-begun.was) in
    rw c.begin-begun.ensures (omega (arith, end))

pub returns : goal.returns
returns c = c.stretch_in.ensures ∙ by_start_lem (goal.at.returns c).After-begin-begun c.in_ok-begun.was
