-- Which field a refusal names: the first that does not fit, in document 01's order.
use Rattle.std.specs.Prelude.{Option, Some, None, Result, Ok, Err, ℕ, ◌≤◌, ◌<◌, ◌≡◌, false, eqb, ltb}
use Rattle.std.proofs.Math.Path.{refl}
use Rattle.std.proofs.Common.{ap, sym, subst, ◌∙◌, arith, of_z}
use borrow.Author.Tests.{ltb-true, ltb-false, eqb-false}
use Rattle.std.specs.Int.{w16}
use Rattle.refusal.specs.declared.Refusal.{Refusal}
use Rattle.refusal.specs.declared.Refusal.TheVariants.{ReturnNumber, NumberOfReturns, Class, Channel, Overlap, Nir, Angle}
use Rattle.flags.specs.Readings.{return_number_of, number_of_returns_of, class_of, channel_of, overlap_of}
use Rattle.angle.specs.Angle.{to_scaled}
use Rattle.point.specs.declared.Point.{Point}
use Rattle.strict.specs.Fit.{first_of, overlap_goes, readings_fit, flags_fit_of, nir_fit_of, rank_fits, exact_rank, angle_fit_of, fit_of}
use Rattle.strict.specs.Shown.{nir_number}
use Rattle.strict.specs.Laws.{not-refused, Fitting, fits_fitting, past, last}
use Rattle.strict.specs.Whole.{nir_none}

-- every reading of the flags fits
abbrev pub FlagsFit : Point → Type 0
FlagsFit p =
    Fitting (return_number_of p.flags) (number_of_returns_of p.flags) (class_of p.flags) (channel_of p.flags) (overlap_of p.flags)

-- "return number above 7; number of returns above 7; class above 31; channel above 0; overlap set and class not 12, or clear and class 12
-- or 28; NIR not 0; rank before holding outside" −90 to 90 (document 02, No. 2): the field that is named does not fit, and all before it do
pub data FirstField (p : Point) : Refusal → Type 0 where
  at_return_number : 7 < return_number_of p.flags → FirstField p (ReturnNumber (return_number_of p.flags))
  at-number-of-returns :
      return_number_of p.flags ≤ 7 → 7 < number_of_returns_of p.flags → FirstField p (NumberOfReturns (number_of_returns_of p.flags))
  at-class :
      return_number_of p.flags ≤ 7 → number_of_returns_of p.flags ≤ 7 → 31 < class_of p.flags → FirstField p (Class (class_of p.flags))
  at-channel :
      return_number_of p.flags ≤ 7 → number_of_returns_of p.flags ≤ 7 → class_of p.flags ≤ 31 → 0 < channel_of p.flags
      → FirstField p (Channel (channel_of p.flags))
  at-overlap :
      return_number_of p.flags ≤ 7 → number_of_returns_of p.flags ≤ 7 → class_of p.flags ≤ 31 → channel_of p.flags ≡ 0
      → overlap_goes (overlap_of p.flags) (class_of p.flags) ≡ false
      → FirstField p (Overlap (class_of p.flags))
  at_nir : FlagsFit p → (nir_number p.nir ≡ 0 → ⊥) → FirstField p (Nir (nir_number p.nir))
  at-angle :
      FlagsFit p → nir_number p.nir ≡ 0 → rank_fits (exact_rank p.scan_angle) ≡ false
      → FirstField p (Angle (of_z w16 (to_scaled p.scan_angle)))

module _ (p : Point) (why : Refusal) where
  -- of the flags: the first of five tests
  flags_first : flags_fit_of p.flags ≡ Err why → FirstField p why
  unfolding flags_fit_of readings_fit
  flags_first =
      let f = p.flags in
      past (FirstField p) why (ltb 7 (return_number_of f)) _ _ (λ t. at_return_number (ltb-true 7 _ t))
      (λ a. past (FirstField p) why (ltb 7 (number_of_returns_of f)) _ _ (λ t. at-number-of-returns (ltb-false 7 _ a) (ltb-true 7 _ t))
      (λ b. past (FirstField p) why (ltb 31 (class_of f)) _ _ (λ t. at-class (ltb-false 7 _ a) (ltb-false 7 _ b) (ltb-true 31 _ t))
      (λ c. past (FirstField p) why (ltb 0 (channel_of f)) _ _ (λ t. at-channel (ltb-false 7 _ a) (ltb-false 7 _ b) (ltb-false 31 _ c) (ltb-true 0 _ t))
      (λ d. last (FirstField p) why (overlap_goes (overlap_of f) (class_of f)) _ (λ t. at-overlap (ltb-false 7 _ a) (ltb-false 7 _ b) (ltb-false 31 _ c) (omega (arith, ltb-false 0 (channel_of f) d)) t)))))

  module _ (fits : flags_fit_of p.flags ≡ Ok tt) where
    fitting : FlagsFit p
    unfolding flags_fit_of
    fitting = fits_fitting (return_number_of p.flags) (number_of_returns_of p.flags) (class_of p.flags) (channel_of p.flags) (overlap_of p.flags) fits

    -- then the near infrared, and then the angle
    nir_first : (n : Option ℕ) → p.nir ≡ n → nir_fit_of n ≡ Err why → FirstField p why
    nir_first (Some n) is e =
        let same : nir_number p.nir ≡ n = ap nir_number is in
        last (FirstField p) why (eqb n 0) (Nir n) (λ t. subst (λ (m : ℕ). FirstField p (Nir m)) same (at_nir fitting (λ z. eqb-false n 0 t (sym same ∙ z)))) e
    nir_first None is e = not-refused why (sym e)

    angle_first : nir_fit_of p.nir ≡ Ok tt → angle_fit_of p.scan_angle ≡ Err why → FirstField p why
    unfolding angle_fit_of
    angle_first none = last (FirstField p) why (rank_fits (exact_rank p.scan_angle)) _ (at-angle fitting (nir_none p.nir none))

  pub first_named : fit_of p ≡ Err why → FirstField p why
  unfolding fit_of
  first_named = go (flags_fit_of p.flags) (nir_fit_of p.nir) refl refl
    where
      go : (x y : Result Unit Refusal) → flags_fit_of p.flags ≡ x → nir_fit_of p.nir ≡ y → first_of x (first_of y (angle_fit_of p.scan_angle)) ≡ Err why → FirstField p why
      go (Err r) y fx fy e = flags_first (fx ∙ e)
      go (Ok _) (Err r) fx fy e = nir_first fx p.nir refl (fy ∙ e)
      go (Ok _) (Ok _) fx fy e = angle_first fx fy e
