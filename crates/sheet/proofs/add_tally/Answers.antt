use Rattle.std.specs.Prelude.{Ok, Err}
use Rattle.std.proofs.Common.{◌≡◌, ◌+◌, ap, sym, ◌∙◌, true, length, arith, rules}
use Rattle.refusal.specs.declared.Refused.{Refused}
use Rattle.sheet.specs.Sheet.{totals_fit, grown_by}
use Rattle.sheet.specs.Laws.{too_large, all_added, Fits, totals_say}
use Rattle.sheet.proofs.add_tally.Goals as goal
use Rattle.sheet.proofs.add_tally.Goals.{Else-not-totals_fit}

pub returns-then-not-totals_fit : goal.returns-then-not-totals_fit
returns-then-not-totals_fit c =
    let a = c.args in
    ap (λ (r : Refused). (Err r, a.sheet.now)) c.into.ensures ∙ sym (too_large a.sheet.now a.tally (sym c.totals_fit.ensures ∙ c.if-not-totals_fit.true))

-- every total fits
fit : (c : Else-not-totals_fit) → totals_fit c.args.sheet.now c.args.tally ≡ true
fit c = sym c.totals_fit.ensures ∙ c.if-not-totals_fit.false

fits : (c : Else-not-totals_fit) → Fits c.args.sheet.now c.args.tally
fits c = totals_say c.args.sheet.now c.args.tally (fit c)

pub overflow_add-sheet : goal.overflow_add-sheet
overflow_add-sheet c = record { fits = omega (arith, (fits (goal.at.overflow_add-sheet c).Else-not-totals_fit).files) }

pub overflow_add-sheet-2 : goal.overflow_add-sheet-2
overflow_add-sheet-2 c = record { fits = omega (arith, (fits (goal.at.overflow_add-sheet-2 c).Else-not-totals_fit).points) }

pub add_all-requires : goal.add_all-requires
add_all-requires c =
    let totals : length c.args.sheet.now.classes ≡ 256 = search rules in
    let more : length c.args.tally.classes ≡ 256 = search rules in
    (totals ∙ sym more, (fits (goal.at.add_all-requires c).Else-not-totals_fit).classes)

pub add_all-requires-2 : goal.add_all-requires-2
add_all-requires-2 c =
    let totals : length c.args.sheet.now.returns ≡ 16 = search rules in
    let more : length c.args.tally.returns ≡ 16 = search rules in
    (totals ∙ sym more, (fits (goal.at.add_all-requires-2 c).Else-not-totals_fit).returns)

pub returns : goal.returns
unfolding grown_by
returns c =
    let a = c.args in
    (λ i. (
      Ok tt,
      record {
        files = a.sheet.now.files + 1;
        points = a.sheet.now.points + a.tally.points;
        bounds = c.both_bounds-sheet.ensures i;
        classes = c.add_all.ensures i;
        returns = c.add_all-2.ensures i;
      },
    ))
    ∙ sym (all_added a.sheet.now a.tally (fit (goal.at.returns c).Else-not-totals_fit))
