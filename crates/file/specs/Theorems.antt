-- What the file check's definition adds up to: document 01, "When a file is accepted".
use Rattle.std.specs.Prelude.{Ok, Err}
use Rattle.rules.specs.NotAccepted.{not_accepted}
use Rattle.std.specs.Prelude.{ℕ, ◌+◌, ◌*◌, ◌≤◌, ◌≡◌, ◌↔◌, false, List, length}
use Rattle.std.proofs.Math.Path.{ap, sym}
use Rattle.std.proofs.Common.{◌∙◌}
use Rattle.refusal.specs.declared.Refusal.{Refusal}
use Rattle.refusal.specs.declared.Refusal.TheVariants.{EvlrStart}
use Rattle.header.specs.Layout.{VersionMinor}
use Rattle.header.specs.Header.{number}
use Rattle.header.specs.Judged.{header_in}
use Rattle.outline.specs.Outline.{evlr_start, evlr_count, outline_with, outline_of}
use Rattle.extents.specs.Extents.{start_refusal, records_of}
use Rattle.file.specs.Rules.{rules_of, checked_of}
use Rattle.rules.specs.First.{all_hold, accepted-all, FirstFailing, first_failing}
use Rattle.file.specs.Holds.{Holds, rules_hold, rules_all, holds-judged}
use Rattle.file.specs.Waveform.{WaveformIn, waveform_outline, other_outline}
use Rattle.file.specs.Counts.{found_of, count_fits}

module _ (allowance : ℕ) (s : List ℕ) where
  -- "When a file is accepted": it is accepted, with a number of records, exactly when rules 1 to 8 hold together, whatever their order, and
  -- that is the number of its VLRs and of the records after its points.
  pub accepted : {n : ℕ} → (checked_of allowance s ≡ Ok n) ↔ (Holds allowance s × (n ≡ records_of (outline_of (header_in s))))
  unfolding checked_of
  accepted = (
    λ p. let a = accepted-all (rules_of allowance s) p in (rules_hold allowance s a.0, sym a.1),
    λ (h, n). all_hold (rules_of allowance s) _ (rules_all allowance s h) ∙ ap Ok (sym n),
  )

  -- so the rules hold of a file that is accepted.
  pub accepted-holds : {n : ℕ} → checked_of allowance s ≡ Ok n → Holds allowance s
  accepted-holds p = (accepted.0 p).0

  -- "The answer, yes or no, carries the number of records found whole before it; this is at most the allowance, and 54 times it is
  -- at most the file length."
  pub count : (found_of (checked_of allowance s) ≤ allowance) × (54 * found_of (checked_of allowance s) ≤ length s)
  count = count_fits allowance s

  -- "Checked in this order; the first that fails is the answer": where a file is refused, the list of rules has one that fails and is
  -- the answer, and all before it hold.
  pub refused-first_failing : {r : Refusal} {k n : ℕ} → checked_of allowance s ≡ Err (not_accepted r k n) → FirstFailing (rules_of allowance s) (Err (not_accepted r k n))
  unfolding checked_of
  refused-first_failing p = first_failing (rules_of allowance s) _ p

  -- document 02, No. 11: the waveform packets "count against the allowance", and so among the records of an accepted file that has them in
  -- it: the VLRs and one.
  pub waveform_counted : WaveformIn s → {n : ℕ} → checked_of allowance s ≡ Ok n → n ≡ (header_in s).number_of_variable_length_records + 1
  unfolding records_of
  waveform_counted w p = let a = accepted.0 p in a.1 ∙ ap records_of (waveform_outline s (holds-judged s a.0.header) w)

  -- in any other file the records after the points are the EVLRs of the header's pair, and their start is refused with 14, as document 01
  -- has it;
  abbrev pub AsIn01 : Type 0
  AsIn01 =
      let h = header_in s in
      (outline_of h ≡ outline_with false (evlr_start h.evlr) (evlr_count h.evlr) h) × (start_refusal (outline_of h) ≡ EvlrStart (evlr_start h.evlr))

  pub other_files : (WaveformIn s → ⊥) → AsIn01
  unfolding start_refusal
  other_files other = let same = other_outline s other in (same, ap start_refusal same)

  -- so "No other version changes."
  pub other_versions : (number VersionMinor s ≡ 3 → ⊥) → AsIn01
  other_versions other = other_files (λ w. other w.version)
