use Rattle.std.specs.Prelude.{Result, min}
use Rattle.std.proofs.Common.{◌≡◌, ℕ, length, sym, ap, ◌∙◌, arith}
use Rattle.std.proofs.lemmas.Result.{err_from_is_err_and}
use Rattle.refusal.specs.declared.Refused.{Refused}
use Rattle.column.specs.declared.Axis.TheVariants.{X}
use Rattle.column.specs.declared.Column.TheVariants.{Axis}
use Rattle.column.specs.declared.Stretch.{Stretch}
use Rattle.column.specs.Column.{stretch_of}
use Rattle.column_xyz.specs.Laws.{stands, xyz_is, xyz_stopped}
use Rattle.column_xyz.proofs.xyz_columns.Goals as goal
use Rattle.column_xyz.proofs.xyz_columns.Goals.{After-stretch_of}

-- the stretch for the least of the three
module _ (c : After-stretch_of) where
  told : {x : Result Stretch Refused} → c.stretch_of.result ≡ x → stretch_of c.args.allowance (Axis X) c.args.first c.args.count (min (min (length c.args.xs.now) (length c.args.ys.now)) (length c.args.zs.now)) c.args.file.now ≡ x
  told is =
      sym (ap (λ (n : ℕ). stretch_of c.args.allowance (Axis X) c.args.first c.args.count n c.args.file.now) (c.min-room.ensures ∙ ap (λ (n : ℕ). min n (length c.args.zs.now)) c.min.ensures))
      ∙ sym c.stretch_of.ensures ∙ is

pub returns-in_err-stretch : goal.returns-in_err-stretch
returns-in_err-stretch c =
    let a = c.args in
    let p = err_from_is_err_and c.from_residual.result c.from_residual.ensures.1 in
    rw (p.1, p.2) (xyz_stopped a.allowance a.first a.count a.file.now a.xs.now a.ys.now a.zs.now (told (goal.at.returns-in_err-stretch c).After-stretch_of c.in_err-stretch.was))

pub fill-requires : goal.fill-requires
fill-requires c =
    let a = c.args in
    let (lie, roomy) = stands a.allowance a.first a.count a.file.now a.xs.now a.ys.now a.zs.now (told (goal.at.fill-requires c).After-stretch_of c.in_ok-stretch.was) in
    (lie, omega arith, omega arith, omega arith)

pub returns : goal.returns
returns c =
    let a = c.args in
    xyz_is a.allowance a.first a.count a.file.now a.xs.now a.ys.now a.zs.now (told (goal.at.returns c).After-stretch_of c.in_ok-stretch.was) c.fill.ensures
