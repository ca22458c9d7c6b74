use Rattle.std.proofs.lemmas.Result.{err_from_is_err_and}
use Prim.Native.Nat.{ℕ}
use Rattle.std.specs.Prelude.{Ok}
use Rattle.judge.specs.Run.{run_of}
use mathlib.Core.Path.{◌≡◌, ap, sym, subst, ◌∙◌}
use native.Mathlib.Omega.{arith}
use Rattle.outline.specs.declared.Outline.{Outline}
use Rattle.outline.specs.Outline.{outline_of}
use Rattle.extents.specs.Extents.{points_end}
use Rattle.migrate.specs.Migrate.{other_of, run_verdict, new_length, placed, header_verdict}
use Rattle.migrate.specs.Steps.{Goer, Inside}
use Rattle.migrate.specs.Moved.{parts, length-fits}
use Rattle.migrate.specs.Told.{by_points, by_header}
use Rattle.migrate.proofs.ask_accepted.Goals as goal
use Rattle.migrate.proofs.ask_accepted.Goals.{After-ask_points, After-of-n, After-of-o}

-- a header that goes, and its outline
module _ (x : After-of-o) where
  goer : Goer x.args.up x.args.header x.args.file.now
  goer = record { ready = x.requires; yes = sym x.goes.ensures ∙ x.in_ok-goes.was }

  inside : Inside (outline_of x.args.header) x.args.file.now
  inside = record { within = (parts x.args.up x.args.header x.args.file.now goer).points-within; known = omega arith }

pub ask_points-requires : goal.ask_points-requires
ask_points-requires c = subst (λ (o : Outline). Inside o c.args.file.now) (sym c.of-o.ensures) (inside c)

-- what the points are told
told : (x : After-ask_points) → header_verdict x.args.up x.args.header x.args.file.now ≡ placed (new_length x.args.up x.args.header x.args.file.now) x.ask_points.result
told x =
    let a = x.args in
    let points = x.ask_points.ensures ∙ ap (λ (o : Outline). run_verdict a.up o a.file.now) x.of-o.ensures in
    by_points a.up a.header a.file.now (goer (goal.at.After-ask_points x).After-of-o).yes ∙ ap (placed (new_length a.up a.header a.file.now)) (sym points)

-- where the points of the new file end, and those of the old one
new-end : (x : After-of-n) → points_end x.of-n.result ≡ points_end (outline_of (other_of x.args.up x.args.header))
new-end x = ap points_end (x.of-n.ensures ∙ ap outline_of x.other.ensures)

old-end : (x : After-of-o) → points_end x.of-o.result ≡ points_end (outline_of x.args.header)
old-end x = ap points_end x.of-o.ensures

pub new_length-requires : goal.new_length-requires
unfolding new_length
new_length-requires c =
    let a = c.args in
    let x = (goal.at.new_length-requires c).After-of-o in
    (omega (arith, old-end x, (inside x).within), omega (arith, new-end (goal.at.new_length-requires c).After-of-n, old-end x, length-fits a.up a.header a.file.now (goer x) (inside x).known))

pub returns : goal.returns
unfolding new_length
returns c =
    let a = c.args in
    let long : c.new_length.result ≡ new_length a.up a.header a.file.now = omega (arith, c.new_length.ensures, new-end (goal.at.returns c).After-of-n, old-end (goal.at.returns c).After-of-o) in
    ap (λ (b : ℕ). Ok (run_of c.in_ok-points.points.plan b)) long
    ∙ sym (told (goal.at.returns c).After-ask_points ∙ ap (placed (new_length a.up a.header a.file.now)) c.in_ok-points.was)

pub returns-in_err-points : goal.returns-in_err-points
returns-in_err-points c =
    let a = c.args in
    let p = err_from_is_err_and c.from_residual-in_err-points.result c.from_residual-in_err-points.ensures.1 in
    rw (p.1, p.2) (sym (told (goal.at.returns-in_err-points c).After-ask_points ∙ ap (placed (new_length a.up a.header a.file.now)) c.in_err-points.was))

pub returns-in_err-goes : goal.returns-in_err-goes
returns-in_err-goes c =
    let a = c.args in
    let p = err_from_is_err_and c.from_residual.result c.from_residual.ensures.1 in
    rw (p.1, p.2) (sym (by_header a.up a.header a.file.now (sym c.goes.ensures ∙ c.in_err-goes.was)))
