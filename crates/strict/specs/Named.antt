-- The field that a refusal names is one that no old record of the standard can show.
use Rattle.std.specs.Prelude.{Option, Some, None, Result, Ok, Err, ℕ, suc, ◌/◌, ◌%◌, ◌<◌, ◌≡◌, refl, true, false, eqb, ltb}
use Rattle.std.proofs.Math.Path.{ap}
use Rattle.std.proofs.Common.{sym, subst, ◌∙◌, arith, ltb-true}
use Rattle.std.proofs.lemmas.Bool.{eqb-false}
use Rattle.refusal.specs.declared.Refusal.{Refusal}
use Rattle.refusal.specs.declared.Refusal.TheVariants.{Overlap, Nir}
use Rattle.le.specs.Le.{num}
use Rattle.format.specs.declared.Format.{Format}
use Rattle.flags.specs.declared.Flags.{Flags}
use Rattle.flags.specs.declared.Flags.TheVariants.{TwoByte}
use Rattle.flags.specs.Readings.{return_number_of, number_of_returns_of, class_of, channel_of, overlap_of, standard_overlap_of}
use Rattle.angle.specs.declared.ScanAngle.{ScanAngle}
use Rattle.point.specs.declared.Point.{Point}
use Rattle.point.specs.Kind.{old_flags, no_nir}
use Rattle.strict.specs.Fit.{first_of, overlap_goes, readings_fit, flags_fit_of, nir_fit_of, rank_fits, exact_rank, angle_fit_of, fit_of}
use Rattle.pairs.specs.Sound.{not-up}
use Rattle.strict.specs.Shown.{nir_number, Same, Within90, Never, Unshown, return-number, number-of-returns, class, channel, overlap, nir, angle}
use Rattle.strict.specs.Laws.{not-refused, past, last, read_goes}

-- what each test of the chain names
module _ (old : Format) (is_old : old.is_extended ≡ false) (without : old.has_nir ≡ false) (p : Point) (why : Refusal) where
  -- a number above its limit is no number up to it
  large : (limit n : ℕ) → ltb limit n ≡ true → (m : ℕ) → m < suc limit → m ≡ n → ⊥
  large limit n t m h e = omega (arith, ltb-true limit n t)

  -- what no two bytes say no old record says
  never : (says : Flags → Type 0) → ((x y : ℕ) → says (TwoByte x y) → ⊥) → Never old (λ q. says q.flags)
  never says none t bytes s = none (num 1 14 t) (num 1 15 t) (subst says (old_flags old t is_old) s)

  overlap_named : overlap_goes (overlap_of p.flags) (class_of p.flags) ≡ false → Unshown old p (Overlap (class_of p.flags))
  overlap_named t =
      overlap (never (λ g. (class_of g ≡ class_of p.flags) × (overlap_of g ≡ overlap_of p.flags) × (standard_overlap_of g ≡ overlap_of p.flags)) (λ x y s. none x y s.0 s.1 s.2))
    where
      none : (x y : ℕ) → class_of (TwoByte x y) ≡ class_of p.flags → overlap_of (TwoByte x y) ≡ overlap_of p.flags → standard_overlap_of (TwoByte x y) ≡ overlap_of p.flags → ⊥
      none x y k rust standard =
          let low : y % 32 % 16 ≡ y % 16 = omega arith in
          let goes : overlap_goes (overlap_of p.flags) (y % 32) ≡ true = read_goes (y % 32) (overlap_of p.flags) (ap (λ (m : ℕ). eqb m 12) low ∙ rust) standard in
          not-up (sym t ∙ subst (λ (c : ℕ). overlap_goes (overlap_of p.flags) c ≡ true) k goes)

  flags_named : flags_fit_of p.flags ≡ Err why → Unshown old p why
  unfolding flags_fit_of readings_fit
  flags_named =
      let f = p.flags in
      past (Unshown old p) why (ltb 7 (return_number_of f)) _ _ (λ t. return-number (never (λ g. return_number_of g ≡ return_number_of f) (λ x y. large 7 (return_number_of f) t (x % 8) (omega arith))))
      (λ _. past (Unshown old p) why (ltb 7 (number_of_returns_of f)) _ _ (λ t. number-of-returns (never (λ g. number_of_returns_of g ≡ number_of_returns_of f) (λ x y. large 7 (number_of_returns_of f) t (x / 8 % 8) (omega arith))))
      (λ _. past (Unshown old p) why (ltb 31 (class_of f)) _ _ (λ t. class (never (λ g. class_of g ≡ class_of f) (λ x y. large 31 (class_of f) t (y % 32) (omega arith))))
      (λ _. past (Unshown old p) why (ltb 0 (channel_of f)) _ _ (λ t. channel (never (λ g. channel_of g ≡ channel_of f) (λ x y. large 0 (channel_of f) t 0 (omega arith))))
      (λ _. last (Unshown old p) why (overlap_goes (overlap_of f) (class_of f)) _ overlap_named))))

  nir_named : (n : Option ℕ) → p.nir ≡ n → nir_fit_of n ≡ Err why → Unshown old p why
  nir_named (Some n) is e =
      let same : nir_number p.nir ≡ n = ap nir_number is in
      last (Unshown old p) why (eqb n 0) (Nir n) (λ t. subst (λ (m : ℕ). Unshown old p (Nir m)) same (nir (λ b _ z. eqb-false n 0 t (sym same ∙ sym z ∙ ap nir_number (no_nir old b without))))) e
  nir_named None is e = not-refused why (sym e)

  angle_named : angle_fit_of p.scan_angle ≡ Err why → Unshown old p why
  unfolding angle_fit_of
  angle_named = last (Unshown old p) why (rank_fits (exact_rank p.scan_angle)) _ (λ out. angle (λ t bytes s. not-up (sym out ∙ ap (λ (a : ScanAngle). rank_fits (exact_rank a)) (sym s.1) ∙ s.0)))

  pub refusal_named : fit_of p ≡ Err why → Unshown old p why
  unfolding fit_of
  refusal_named = either (flags_fit_of p.flags) _ flags_named (either (nir_fit_of p.nir) _ (nir_named p.nir refl) angle_named)
    where
      either : (f g : Result Unit Refusal) → (f ≡ Err why → Unshown old p why) → (g ≡ Err why → Unshown old p why) → first_of f g ≡ Err why → Unshown old p why
      either (Ok _) g u v e = v e
      either (Err r) g u v e = u e

-- and so none shows the point
pub unshown_never : {old : Format} {p : Point} {why : Refusal} → Unshown old p why → Never old (λ q. Within90 q × Same p q)
unshown_never (return-number none) t bytes s = none t bytes s.1.flags.return-number
unshown_never (number-of-returns none) t bytes s = none t bytes s.1.flags.number-of-returns
unshown_never (class none) t bytes s = none t bytes s.1.flags.class
unshown_never (channel none) t bytes s = none t bytes s.1.flags.channel
unshown_never (overlap none) t bytes s = none t bytes (s.1.flags.class, s.1.flags.overlap, s.1.flags.overlap_standard)
unshown_never (nir none) t bytes s = none t bytes s.1.nir
unshown_never (angle none) t bytes s = none t bytes (s.0, s.1.scan_angle)
