use Rattle.std.specs.Prelude.{Result, Ok, Err}
use Rattle.rules.specs.declared.NotAccepted.{NotAccepted}
use Rattle.rules.specs.NotAccepted.{not_accepted}
use mathlib.Core.Path.{◌≡◌, refl, ap, ◌∙◌}
use mathlib.Core.Bool.{Bool, true, false, cond}
use mathlib.Core.List.{List}
use Prim.Native.Nat.{ℕ, ◌+◌}
use native.Mathlib.Omega.{arith}
use borrow.Author.Tests.{eq-eqb, ne_eqb, le-leb}
use Rattle.refusal.proofs.Tests.{tests}
use Rattle.refusal.specs.declared.Refusal.{Refusal}
use Rattle.refusal.specs.declared.Refusal.TheVariants.{EvlrStart, WaveformStart}
use Rattle.outline.specs.declared.Outline.{Outline}
use Rattle.rules.specs.Rules.{first, record_number, record_rules}
use Rattle.extents.specs.Extents.{start_refusal, later_rules, records_of}
use Rattle.rules.proofs.Walk.{lent-rest}
use Rattle.extents.proofs.check_later.Goals as goal

pub returns-then-o-eq0 : goal.returns-then-o-eq0
unfolding first later_rules records_of
returns-then-o-eq0 c =
    let o = c.args.o in
    let none : o.number_of_variable_length_records ≡ o.number_of_variable_length_records + o.number_of_later_records = omega arith in
    rw (eq-eqb _ _ c.if-o-eq0.true) (ap Ok none)

-- a start that is refused names no record
start-number : (o : Outline) (n : ℕ) {r : Refusal} → r ≡ start_refusal o → ◌≡◌ {A = Result ℕ NotAccepted} (Err (not_accepted r 0 n)) (Err (not_accepted (start_refusal o) (record_number (start_refusal o) n) n))
unfolding start_refusal record_number
start-number o n e = ap {B = Result ℕ NotAccepted} (λ (x : Refusal). Err (not_accepted x 0 n)) e ∙ go o.waveform
  where
    go : (b : Bool) → (let x = cond b WaveformStart (EvlrStart o.start_of_later_records) in ◌≡◌ {A = Result ℕ NotAccepted} (Err (not_accepted x 0 n)) (Err (not_accepted x (record_number x n) n)))
    go true = refl
    go false = refl

pub returns-then-start-end : goal.returns-then-start-end
unfolding first later_rules
returns-then-start-end c =
    rw (← c.requires) (c.refused.ensures ∙ start-number c.args.o _ c.start_refusal.ensures ∙ search tests)

pub returns-then-file-start : goal.returns-then-file-start
unfolding first later_rules
returns-then-file-start c =
    rw (← c.requires) (c.refused-then-file-start.ensures ∙ start-number c.args.o _ c.start_refusal-then-file-start.ensures ∙ search tests)

pub returns : goal.returns
unfolding first later_rules records_of
returns c =
    let a = c.args in
    let o = a.o in
    rw (← c.requires, ne_eqb _ _ c.if-o-eq0.false, le-leb _ _ c.if-start-end.false, le-leb _ _ c.if-file-start.false)
    (c.check_records.ensures
    ∙ ap (λ (l : List ℕ). first (record_rules true a.allowance o.number_of_variable_length_records o.number_of_later_records l) (Ok (o.number_of_variable_length_records + o.number_of_later_records)))
    (lent-rest a.file.now o.start_of_later_records c.if-file-start.false))
