use Rattle.std.proofs.lemmas.Result.{err_from_is_err_and}
use Rattle.std.specs.Prelude.{Result, Ok, Err}
use Rattle.refusal.specs.declared.Refused.{Refused}
use Prim.Native.Nat.{ℕ, ◌*◌, ◌≤◌}
use mathlib.Core.Path.{◌≡◌, ap, sym, ◌∙◌}
use mathlib.Core.Bool.{Bool, true, false, cond}
use native.Mathlib.Omega.{arith}
use borrow.Author.Tests.{le-ltb, eq-eqb, ne_eqb}
use lib.Dec.{ltb}
use lib.ListN.{length}
use Rattle.refusal.specs.declared.Refusal.{Refusal}
use Rattle.format.specs.declared.Format.{Format}
use Rattle.format.specs.Length.{len_is}
use Rattle.outline.specs.Outline.{outline_of}
use Rattle.file.specs.Points.{point_format}
use Rattle.tally.specs.declared.ByReturn.{ByReturn}
use Rattle.tally.specs.Tally.{by_return, tally_of}
use Rattle.tally.specs.Laws.{tally_told, tally_is}
use Rattle.offer.specs.declared.Offer.{Offer}
use Rattle.offer.specs.Offer.{record_length, no, offered}
use Rattle.offer.proofs.judge_version.Goals as goal
use Rattle.offer.proofs.judge_version.Goals.{After-count}

pub returns-then-version-ne2 : goal.returns-then-version-ne2
unfolding offered
returns-then-version-ne2 c = rw (ne_eqb _ 2 c.if-version-ne2.true) c.refused.ensures

pub returns-then-n-eq0 : goal.returns-then-n-eq0
unfolding offered
returns-then-n-eq0 c = rw (eq-eqb _ 2 c.if-version-ne2.false, eq-eqb _ 0 c.if-n-eq0.true) c.refused-then-n-eq0.ensures

-- the records are counted in the format of the file's points
module _ (x : After-count) where
  abbrev f : Format
  f = point_format (outline_of x.args.h)

  told : tally_of f x.args.n x.args.records.now ≡ x.count.result
  told =
      let format = x.point_format.ensures ∙ ap point_format x.of.ensures in
      sym (x.count.ensures ∙ ap (λ (g : Format). tally_of g x.args.n x.args.records.now) format)

  -- and are there
  module _ {new : ByReturn} (is : x.count.result ≡ Ok new) where
    there : x.args.n * record_length x.args.h ≤ length x.args.records.now
    there =
        let a = x.args in
        rw (len_is f (record_length a.h) x.requires.long) ((tally_is f a.n a.records.now).0 (told ∙ is)).1

    counts : new ≡ by_return f x.args.n x.args.records.now
    counts = ((tally_is f x.args.n x.args.records.now).0 (told ∙ is)).2

pub judge_count-requires : goal.judge_count-requires
judge_count-requires c =
    let x = (goal.at.judge_count-requires c).After-count in
    record { ready = c.requires; there = there x c.in_ok-new.was; counts = counts x c.in_ok-new.was }

pub returns : goal.returns
unfolding offered
returns c =
    let x = (goal.at.returns c).After-count in
    rw (eq-eqb _ 2 c.if-version-ne2.false, ne_eqb _ 0 c.if-n-eq0.false, le-ltb _ _ (there x c.in_ok-new.was)) c.judge_count.ensures

-- a count that is refused is refused with 1
short : (b : Bool) (s r : Refusal) (x : ByReturn) (otherwise : Result Offer Refused) → cond b (Err s) (Ok x) ≡ Err r → no r ≡ cond b (no s) otherwise
short true s r x otherwise e = cc
short false s r x otherwise e = let z : ◌≡◌ {A = ℕ} 0 1 = cc in absurd (omega arith)

pub returns-in_err-new : goal.returns-in_err-new
unfolding offered
returns-in_err-new c =
    let x = (goal.at.returns-in_err-new c).After-count in
    let a = c.args in
    let p = err_from_is_err_and c.from_residual.result c.from_residual.ensures.1 in
    rw (p.1, p.2, eq-eqb _ 2 c.if-version-ne2.false, ne_eqb _ 0 c.if-n-eq0.false)
    (short (ltb (length a.records.now) (a.n * record_length a.h)) _ _ _ _ (sym (tally_told (f x) a.n a.records.now (record_length a.h) c.requires.long) ∙ told x ∙ c.in_err-new.was))
