-- What a converted run shows, and what a refused record is.
use Rattle.std.specs.Prelude.{Ok, ℕ, suc, ◌*◌, ◌≤◌, ◌<◌, ◌≡◌, false, List, [], length, drop}
use Rattle.std.proofs.Common.{ap, sym, subst, ◌∙◌, append-nil, arith, drop_at}
use Rattle.refusal.specs.declared.Refusal.{Refusal}
use Rattle.le.specs.Le as le
use Rattle.le.specs.Laws.{bytes_take, bytes_drop}
use Rattle.format.specs.declared.Field.TheVariants.{ExtraBytes}
use Rattle.point.specs.Read.{point_of, field_of}
use Rattle.strict.specs.Fit.{fit_of}
use Rattle.strict.specs.Shown.{Same, down_image}
use Rattle.strict.specs.Theorems.{shown_the_same, shown_in_bytes, first-field_named, refused-only_then, no-old_record_shows_it, fits-if-shown}
use Rattle.strict.specs.Whole.{same-within}
use Rattle.pairs.specs.Pairs.{format_with}
use Rattle.convert.specs.Run.{images_of, to_old_of}
use Rattle.pairs.specs.Sound.{Sound}
use Rattle.convert.specs.Demand.{Down, length_of, run_length, nth, point_at, SameValues, OldRecord, FirstUnfit, AllWithin90, RefusedFor, of-record}
use Rattle.judge.specs.Laws.{goes}
use Rattle.convert.specs.Laws.{takes_all, images-length}
use Rattle.convert.specs.Told.{plan_of, told-bytes, plan-of_sound, down_paired, down_told}
use Rattle.convert.specs.Each.{nth-length, fits_each, Written, written, each-shown}

module _ {new old : ℕ} (pair : Down new old) (extra count : ℕ) (s d : List ℕ) where
  module _ {n : ℕ} {e : List ℕ} (h : to_old_of new extra count s d ≡ (Ok n, e)) where
    down_sound : Sound false (plan_of (format_with new extra) (format_with old extra))
    down_sound =
        let run = told-bytes false _ _ count s d (sym (down_told pair extra count s d) ∙ h) in
        plan-of_sound false _ _ run.0 run.1 (down_paired pair extra)

    down_written : Written false (plan_of (format_with new extra) (format_with old extra)) count s d n e
    down_written = written false _ count s d (told-bytes false _ _ count s d (sym (down_told pair extra count s d) ∙ h)).2

    pub same_values : le.Bytes s → (k : ℕ) → k < count → SameValues new old extra k s e
    same_values bytes k l =
        let w = down_written in
        let same = each-shown _ down_sound (down_paired pair extra) count s d bytes w.fits w.stands k l in
        record { readings = same.0; extra-bytes = same.1 }

    pub ranks_within : le.Bytes s → AllWithin90 old extra count e
    ranks_within bytes k l =
        let plan = plan_of (format_with new extra) (format_with old extra) in
        let g = goes false plan count s down_written.fits in
        same-within (same_values bytes k l).readings (fits_each (format_with new extra) (length_of new extra) 1 count s g.records k l)

    pub rest_stays : (n ≡ run_length old extra count) × (drop n e ≡ drop n d)
    rest_stays =
        let w = down_written in
        let plan = plan_of (format_with new extra) (format_with old extra) in
        let g = goes false plan count s w.fits in
        let size = images-length false plan down_sound count s (takes_all false plan down_sound count s g.records) g.there in
        let past : drop (run_length old extra count) e ≡ drop (run_length old extra count) d = ap (drop (run_length old extra count)) w.stands ∙ drop_at (images_of false plan count s) _ _ size in
        (w.many, subst (λ (m : ℕ). drop m e ≡ drop m d) (sym w.many) past)

  -- a record fits exactly when an old record shows it
  module _ (bytes : le.Bytes s) (there : run_length new extra count ≤ length s) (k : ℕ) (within : k < count) where
    pub fits-shown : fit_of (point_at new extra k s) ≡ Ok tt → OldRecord new old extra k s
    fits-shown fits =
        let a = format_with new extra in
        let b = format_with old extra in
        let paired = down_paired pair extra in
        let r = nth (length_of new extra) k s in
        let all = bytes_take (length_of new extra) _ (bytes_drop (k * length_of new extra) s bytes) in
        let long : length r ≡ length_of new extra = nth-length (length_of new extra) k count s within there in
        let shown = subst (λ (t : List ℕ). Same (point_of a r) (point_of b t) × (field_of b ExtraBytes t ≡ field_of a ExtraBytes r)) (append-nil (down_image a b r)) (shown_the_same a b paired r all [] (omega arith) fits) in
        let own = shown_in_bytes a b paired r all [] (omega arith) fits in
        record { image = down_image a b r; bytes = own.0; long = own.1; readings = shown.0; extra-bytes = shown.1; within_90 = same-within shown.0 fits }

    pub shown-fits : OldRecord new old extra k s → fit_of (point_at new extra k s) ≡ Ok tt
    shown-fits o = fits-if-shown _ _ (down_paired pair extra) _ o.image o.bytes o.within_90 o.readings

  -- a refusal with a record's number is that record's
  pub unfit_record : {why : Refusal} {k : ℕ} → RefusedFor new extra count s d why (suc k) → FirstUnfit new old extra count k s why
  unfit_record {why} (of-record {k = k} own long there within before refused) =
      let paired = down_paired pair extra in
      record {
        within = within;
        earlier_fit = before;
        first_field = first-field_named _ why refused;
        named = refused-only_then _ _ paired _ why refused;
        not-shown = no-old_record_shows_it _ _ paired _ why refused;
      }
