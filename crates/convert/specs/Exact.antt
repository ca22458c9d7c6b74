-- When a run is converted, and what it is refused with: each of the words of `Demand.antt` exactly then.
use Rattle.std.specs.Prelude.{Result, Ok, Err, ◌≡◌, Bool, cond, List, ◌++◌, length, drop}
use Rattle.refusal.specs.Refused.{at_record, refused_same}
use Rattle.refusal.specs.declared.Refused.{Refused}
use Prim.Native.Nat.{ℕ, suc, ◌+◌, ◌≤◌}
use Rattle.std.proofs.Math.Path.{refl}
use Rattle.std.proofs.Common.{ap, sym, subst, ◌∙◌, ⊎_elim}
use Rattle.std.proofs.Math.Bool.{true, false}
use native.Mathlib.Omega.{arith}
use borrow.Author.Tests.{le-ltb, lt-ltb, ltb-true, ltb-false}
use Rattle.std.proofs.Math.Dec.{ltb}
use Rattle.refusal.specs.declared.Refusal.{Refusal}
use Rattle.refusal.specs.declared.Refusal.TheVariants.{Short, NoRoom}
use Rattle.refusal.specs.Table.{wanted_of}
use Rattle.format.specs.Length.{len-told, len-refused}
use Rattle.pairs.specs.Pairs.{format_with}
use Rattle.judge.specs.Judge.{judge_run, judged_of, verdict_on}
use Rattle.convert.specs.Run.{images_of, done_of, to_old_of}
use Rattle.convert.specs.Demand.{Down, length_of, run_length, NotOverlong, Convertible, RefusedFor, no_pair, source_overlong, target-overlong, source-short, of-record, no_room}
use Rattle.judge.specs.Laws.{goes}
use Rattle.convert.specs.Told.{plan_of, converted_of, told, Tells, source_over, target_over, runs, tells, told-run, told-bytes, not-bytes, down_told, pair_or-none, none_told}
use Rattle.convert.specs.Each.{fits_each, all-fit, first-refused, refused-at, written}

module _ (code extra count : ℕ) (s d : List ℕ) where
  -- a run that is converted is convertible, and a convertible one is converted
  pub converted_then : {n : ℕ} {e : List ℕ} → to_old_of code extra count s d ≡ (Ok n, e) → Convertible code extra count s d
  converted_then {n} {e} h = ⊎_elim (λ w. of_pair w.0 w.1) (λ none. not-bytes _ 0 n d e (sym (none_told code none extra count s d) ∙ h)) (pair_or-none code)
    where
      of_pair : (old : ℕ) → Down code old → Convertible code extra count s d
      of_pair old pair =
          let a = format_with code extra in
          let b = format_with old extra in
          let run = told-bytes false a b count s d (sym (down_told pair extra count s d) ∙ h) in
          let w = written false (plan_of a b) count s d run.2 in
          let g = goes false (plan_of a b) count s w.fits in
          record { old = old; pair = pair; not-overlong = (run.0, run.1); enough = (g.there, w.room); all-fit = fits_each a (length_of code extra) 1 count s g.records }

  pub then_converted : (c : Convertible code extra count s d) → to_old_of code extra count s d ≡ (Ok (run_length c.old extra count), images_of false (plan_of (format_with code extra) (format_with c.old extra)) count s ++ drop (run_length c.old extra count) d)
  unfolding converted_of judged_of
  then_converted c =
      let a = format_with code extra in
      let b = format_with c.old extra in
      down_told c.pair extra count s d
      ∙ told-run false a b count s d c.not-overlong.0 c.not-overlong.1
      ∙ rw (le-ltb (length s) (run_length code extra count) c.enough.0, all-fit a (length_of code extra) 1 count s c.all-fit, le-ltb (length d) (run_length c.old extra count) c.enough.1)

  -- a refusal that is the one found is told, with the destination as it was
  same_refusal : {why r : Refusal} {i j : ℕ} {e : List ℕ} → RefusedFor code extra count s d why i → ◌≡◌ {A = Result ℕ Refused × List ℕ} (Err (at_record why i), d) (Err (at_record r j), e) → RefusedFor code extra count s d r j × (e ≡ d)
  same_refusal {why} {r} {i} {j} found h =
      let e = refused_same (ap (λ (w : Result ℕ Refused × List ℕ). w.0) h) in
      (subst (λ (k : ℕ). RefusedFor code extra count s d r k) e.1 (subst (λ (x : Refusal). RefusedFor code extra count s d x i) e.0 found), sym (ap (λ (w : Result ℕ Refused × List ℕ). w.1) h))

  -- of a pair: the tests in their order
  module _ {old : ℕ} (pair : Down code old) {r : Refusal} {j : ℕ} {e : List ℕ} where
    room-refused : NotOverlong code old extra → run_length code extra count ≤ length s → judge_run (format_with code extra) (length_of code extra) 1 count s ≡ Ok tt → (t : Bool) → ltb (length d) (run_length old extra count) ≡ t → (images : List ℕ) → ◌≡◌ {A = Result ℕ Refused × List ℕ} (cond t (Err (at_record (NoRoom (run_length old extra count)) 0), d) (Ok (run_length old extra count), images)) (Err (at_record r j), e) → RefusedFor code extra count s d r j × (e ≡ d)
    room-refused long there f true t images h = same_refusal (no_room pair long there (fits_each (format_with code extra) (length_of code extra) 1 count s f) (ltb-true _ _ t)) h
    room-refused long there f false t images h = not-bytes r j _ e _ (sym h)

    record_refused : NotOverlong code old extra → run_length code extra count ≤ length s → (w : Result Unit Refused) → judge_run (format_with code extra) (length_of code extra) 1 count s ≡ w → done_of false count s d (verdict_on (plan_of (format_with code extra) (format_with old extra)) count w) ≡ (Err (at_record r j), e) → RefusedFor code extra count s d r j × (e ≡ d)
    record_refused long there (Ok _) f h = room-refused long there f (ltb (length d) (run_length old extra count)) refl _ h
    record_refused long there (Err err) f h =
        let w = first-refused (format_with code extra) (length_of code extra) 1 count s f in
        let number : suc w.others ≡ err.«record» = omega (arith, w.numbered) in
        same_refusal (subst (λ (k : ℕ). RefusedFor code extra count s d err.refusal k) number (of-record pair long there w.within w.earlier w.refused)) h

    run-refused : NotOverlong code old extra → converted_of false (plan_of (format_with code extra) (format_with old extra)) count s d ≡ (Err (at_record r j), e) → RefusedFor code extra count s d r j × (e ≡ d)
    unfolding converted_of judged_of
    run-refused long = go (ltb (length s) (run_length code extra count)) refl
      where
        go : (x : Bool) → ltb (length s) (run_length code extra count) ≡ x → done_of false count s d (verdict_on (plan_of (format_with code extra) (format_with old extra)) count (cond x (Err (at_record (Short (wanted_of (run_length code extra count))) 0)) (judge_run (format_with code extra) (length_of code extra) 1 count s))) ≡ (Err (at_record r j), e) → RefusedFor code extra count s d r j × (e ≡ d)
        go true f h = same_refusal (source-short pair long (ltb-true _ _ f)) h
        go false f h = record_refused long (ltb-false _ _ f) _ refl h

    pair_refused : told false (format_with code extra) (format_with old extra) count s d ≡ (Err (at_record r j), e) → RefusedFor code extra count s d r j × (e ≡ d)
    pair_refused = go (tells false (format_with code extra) (format_with old extra) count s d)
      where
        go : {w : Result ℕ Refused × List ℕ} → Tells false (format_with code extra) (format_with old extra) count s d w → w ≡ (Err (at_record r j), e) → RefusedFor code extra count s d r j × (e ≡ d)
        go (source_over l) h = same_refusal (source_overlong pair l) h
        go (target_over m l) h = same_refusal (target-overlong pair m l) h
        go (runs m l) h = run-refused (m, l) h

  -- what a run is refused with holds of it, and with what holds of it it is refused; the destination is as it was
  pub refused_then : {r : Refusal} {j : ℕ} {e : List ℕ} → to_old_of code extra count s d ≡ (Err (at_record r j), e) → RefusedFor code extra count s d r j × (e ≡ d)
  refused_then h =
      ⊎_elim (λ w. pair_refused w.1 (sym (down_told w.1 extra count s d) ∙ h))
      (λ none. same_refusal (no_pair none) (sym (none_told code none extra count s d) ∙ h))
      (pair_or-none code)

  pub then_refused : {r : Refusal} {j : ℕ} → RefusedFor code extra count s d r j → to_old_of code extra count s d ≡ (Err (at_record r j), d)
  unfolding converted_of judged_of
  then_refused (no_pair none) = none_told code none extra count s d
  then_refused (source_overlong pair l) = down_told pair extra count s d ∙ rw (len-refused (format_with code extra) l)
  then_refused (target-overlong {old} pair h l) = down_told pair extra count s d ∙ rw (len-told (format_with code extra) h, len-refused (format_with old extra) l)
  then_refused (source-short {old} pair long l) =
      down_told pair extra count s d
      ∙ told-run false (format_with code extra) (format_with old extra) count s d long.0 long.1
      ∙ rw (lt-ltb (length s) (run_length code extra count) l)
  then_refused (of-record {old} {k} {why} pair long there within before refused) =
      let number : 1 + k ≡ suc k = omega arith in
      down_told pair extra count s d
      ∙ told-run false (format_with code extra) (format_with old extra) count s d long.0 long.1
      ∙ rw (le-ltb (length s) (run_length code extra count) there, refused-at (format_with code extra) (length_of code extra) 1 count s why k within before refused, number)
  then_refused (no_room {old} pair long there fit l) =
      down_told pair extra count s d
      ∙ told-run false (format_with code extra) (format_with old extra) count s d long.0 long.1
      ∙ rw (le-ltb (length s) (run_length code extra count) there, all-fit (format_with code extra) (length_of code extra) 1 count s fit, lt-ltb (length d) (run_length old extra count) l)
