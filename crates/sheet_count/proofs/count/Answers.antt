use Rattle.std.specs.Prelude.{Result, Ok}
use Rattle.std.proofs.Common.{◌≡◌, ℕ, ◌+◌, ◌*◌, ◌≤◌, ap, sym, subst, ◌∙◌, length}
use Rattle.std.proofs.lemmas.Result.{err_from_is_err_and}
use Rattle.refusal.specs.declared.Refused.{Refused}
use Rattle.format.specs.Fields.{record_bytes}
use Rattle.layout.specs.Placed.{laid}
use Rattle.walker.specs.declared.Place.{Place}
use Rattle.sheet_count.specs.declared.Tally.{Tally}
use Rattle.sheet_count.specs.Count.{tallied_at}
use Rattle.sheet_count.specs.File.{tally_of, counted_by, counted_of}
use Rattle.sheet_count.specs.Read.{wide, tallied, in_file}
use Rattle.sheet_count.proofs.count.Goals as goal
use Rattle.sheet_count.proofs.count.Goals.{After-begin-begun, After-for_format-stride}

-- by what the walker starts from
module _ (m : After-begin-begun) where
  by_start_lem : {x : Result Unit Refused} → m.begin-begun.result.start ≡ x → counted_by (tally_of m.begin-begun.result m.args.file.now) x ≡ counted_of m.args.allowance m.args.file.now
  unfolding counted_of
  by_start_lem e =
      ap (counted_by (tally_of m.begin-begun.result m.args.file.now)) (sym e)
      ∙ ap (λ (p : Place). counted_by (tally_of p m.args.file.now) p.start) m.begin-begun.ensures

-- A record is as long as the layout says, and where there is one it stands in the file.
module _ (c : After-for_format-stride) where
  abbrev p : Place
  p = c.begin-begun.result

  long : c.for_format-stride.result.record_len ≡ record_bytes p.format
  long = (laid p.format c.for_format-stride.ensures).long

  there : p.at + p.count * record_bytes p.format ≤ length c.args.file.now
  there =
      subst (λ (q : Place). q.at + q.count * record_bytes q.format ≤ length c.args.file.now) (sym c.begin-begun.ensures)
      (in_file c.args.allowance c.args.file.now)

pub returns-in_err-begun : goal.returns-in_err-begun
returns-in_err-begun c =
    let p = err_from_is_err_and c.from_residual.result c.from_residual.ensures.1 in
    rw (p.1, p.2) (by_start_lem (goal.at.returns-in_err-begun c).After-begin-begun c.in_err-begun.was)

pub tally_at-requires : goal.tally_at-requires
tally_at-requires c = rw (long c) (wide (p c).format, there c)

pub returns : goal.returns
returns c =
    let t = (goal.at.returns c).After-for_format-stride in
    let q = p t in
    let s = c.args.file.now in
    let counts = c.tally_at.ensures ∙ ap (λ (m : ℕ). tallied_at q.format.is_extended q.at m q.count s) (long t) ∙ tallied q s in
    ap (λ (t : Tally). Ok t) counts ∙ by_start_lem (goal.at.returns c).After-begin-begun c.in_ok-begun.was
