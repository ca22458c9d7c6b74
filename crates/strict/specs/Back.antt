-- Old flags brought up, and down again; and that an old point is judged as the one that it is brought up to.
use Rattle.std.specs.Prelude.{Ok, Err, ℕ, ◌/◌, ◌%◌, ◌<◌, ◌≡◌, refl, Bool, true, false, cond, List, ◌∷◌, ◌++◌, ◌↔◌, ℤ, pos, replicate}
use Rattle.std.proofs.Math.Path.{ap, sym, subst}
use Rattle.std.proofs.Common.{◌∙◌, eqb-true, of_z, to_z}
use native.Mathlib.Omega.{arith}
use Rattle.std.proofs.lemmas.Bool.{eqb-false}
use Rattle.std.proofs.Math.Dec.{eqb}
use mir.Syntax.{w8, w16}
use Rattle.refusal.specs.declared.Refusal.TheVariants.{Angle}
use Rattle.le.specs.Le.{num}
use Rattle.le.specs.Laws.{num-one}
use Rattle.format.specs.declared.Format.{Format}
use Rattle.flags.specs.declared.Flags.{Flags}
use Rattle.flags.specs.declared.Flags.TheVariants.{TwoByte, ThreeByte}
use Rattle.flags.specs.declared.ScanDirection.{ScanDirection}
use Rattle.flags.specs.declared.ScanDirection.TheVariants.{RightToLeft, LeftToRight}
use Rattle.flags.specs.Readings.{bit, class_of}
use Rattle.flags.specs.Bytes.{old_first, old_second, two_bytes_of}
use Rattle.flags.specs.Theorems.{old-first-whole, old_second_whole, readings_agree}
use Rattle.angle.specs.declared.ScanAngle.TheVariants.{Rank}
use Rattle.angle.specs.Sign.{scaled-size}
use Rattle.angle.specs.Theorems.{nearest_back}
use Rattle.point.specs.declared.Point.{Point}
use Rattle.point.specs.Read.{point_of}
use Rattle.point.specs.Kind.{old_flags, old_angle, no_nir}
use Rattle.point_write.specs.Held.{FlagsHeld}
use Rattle.pairs.specs.Sound.{not-up}
use Rattle.strict.specs.Fit.{first_of, overlap_goes, readings_fit, flags_fit_of, rank_fits, angle_fit_of, fit_of}
use Rattle.strict.specs.Upgrade.{new_first, new_second, upgraded_flags, upgraded_old, upgraded_by, upgraded_of}
use Rattle.strict.specs.Shown.{Shown, nir_number, Same, Within90}
use Rattle.strict.specs.Made.{NewFirst, new-first, NewSecond, new_second_lem}
use Rattle.strict.specs.Laws.{fits_fitting, fitting_fits, read_goes, never_at_28, shown-fits, bytes-of_fitting}
use Rattle.strict.specs.Whole.{fits-within, within-fits, scaled_alike, none-fits, fit_parts, parts_fit}

-- the way that a bit says
abbrev way : Bool → ScanDirection
way t = cond t LeftToRight RightToLeft

same_bit : (s t : Bool) → way s ≡ way t → s ≡ t
same_bit true true e = refl
same_bit true false e = let z : ◌≡◌ {A = ℕ} 0 1 = cc in absurd (omega arith)
same_bit false true e = let z : ◌≡◌ {A = ℕ} 0 1 = cc in absurd (omega arith)
same_bit false false e = refl

-- two bytes that show extended flags whole are what the plain conversion gives
pub shown-bytes : (a b c x y : ℕ) → x < 256 → y < 256 → Shown (ThreeByte a b c) (TwoByte x y) → two_bytes_of (ThreeByte a b c) ≡ Ok (x, y)
shown-bytes a b c x y h l s =
    bytes-of_fitting a b c (shown-fits (ThreeByte a b c) x y s)
    ∙ sym (λ i. Ok ((old_first (s.return-number i) (s.number-of-returns i) (same_bit (bit 6 x) (bit 6 b) s.direction i) (s.edge i)), (old_second (s.class i) (s.synthetic i) (s.key_point i) (s.withheld i))))
    ∙ sym (λ i. Ok ((old-first-whole x y h i), (old_second_whole x y l i)))

module _ (a b : ℕ) where
  first_made : NewFirst (new_first (a % 8) (a / 8 % 8)) (a % 8) (a / 8 % 8)
  first_made = new-first (a % 8) (a / 8 % 8) (omega arith) (omega arith)

  second_made : NewSecond (new_second (bit 5 b) (bit 6 b) (bit 7 b) (eqb (b % 32) 12) 0 (bit 6 a) (bit 7 a)) (bit 5 b) (bit 6 b) (bit 7 b) (eqb (b % 32) 12) (bit 6 a) (bit 7 a)
  second_made = new_second_lem (bit 5 b) (bit 6 b) (bit 7 b) (eqb (b % 32) 12) (bit 6 a) (bit 7 a)

  -- the new flags are bytes
  pub upgraded-held : FlagsHeld true (upgraded_flags (TwoByte a b))
  unfolding upgraded_flags
  upgraded-held = (first_made.small, (second_made.small, omega arith))

  -- class 28 goes with no overlap, and of the other classes both have the same
  goes_alike : overlap_goes (eqb (b % 32) 12) (b % 32) ≡ overlap_goes (eqb (b % 16) 12) (b % 32)
  goes_alike = go (eqb (b % 32) 28) refl
    where
      go : (t : Bool) → eqb (b % 32) 28 ≡ t → overlap_goes (eqb (b % 32) 12) (b % 32) ≡ overlap_goes (eqb (b % 16) 12) (b % 32)
      go true e =
          let never = never_at_28 (b % 32) (eqb-true (b % 32) 28 e) in
          never (eqb (b % 32) 12) ∙ sym (never (eqb (b % 16) 12))
      go false e = ap (λ (o : Bool). overlap_goes o (b % 32)) (sym (readings_agree a b (eqb-false (b % 32) 28 e)))

  -- so the new flags are judged as the old ones
  flags_judged : flags_fit_of (upgraded_flags (TwoByte a b)) ≡ flags_fit_of (TwoByte a b)
  unfolding upgraded_flags flags_fit_of readings_fit
  flags_judged =
      let x = first_made in
      let y = second_made in
      rw (x.return-number, x.number-of-returns, y.channel, y.overlap, goes_alike)

  -- which fit exactly when their class is not 28
  flags_fit : (flags_fit_of (TwoByte a b) ≡ Ok tt) ↔ (class_of (TwoByte a b) ≡ 28 → ⊥)
  unfolding flags_fit_of
  flags_fit = (
    λ fits is. not-up (sym (never_at_28 (b % 32) is (eqb (b % 16) 12)) ∙ (fits_fitting _ _ _ _ _ fits).goes),
    λ not_28.
        let low : b % 32 % 16 ≡ b % 16 = omega arith in
        fitting_fits _ _ _ _ _ (record {
          return-number = omega arith;
          number-of-returns = omega arith;
          class-fits = omega arith;
          no-channel = refl;
          goes = read_goes (b % 32) (eqb (b % 16) 12) (ap (λ (m : ℕ). eqb m 12) low) (sym (readings_agree a b not_28));
        }),
  )

  -- an old point of them is judged as the one that it is brought up to, and fits exactly when its class isn't 28 and its rank is within ±90
  module _ (p : Point) (two : p.flags ≡ TwoByte a b) (none : nir_number p.nir ≡ 0) where
    pub old-judged : fit_of (upgraded_old p a b) ≡ fit_of p
    unfolding upgraded_old fit_of
    old-judged = λ i. first_of ((flags_judged ∙ ap flags_fit_of (sym two)) i) (first_of (sym (none-fits p.nir none) i) (scaled_alike p.scan_angle i))

    pub old-fits : (fit_of p ≡ Ok tt) ↔ ((class_of p.flags ≡ 28 → ⊥) × Within90 p)
    old-fits = (
      λ fits.
          let fit = fit_parts p fits in
          (λ is. flags_fit.0 (ap flags_fit_of (sym two) ∙ fit.0) (ap class_of (sym two) ∙ is), fits-within p.scan_angle fit.2),
      λ may.
          parts_fit p (ap flags_fit_of two ∙ flags_fit.1 (λ is. may.0 (ap class_of two ∙ is))) (none-fits p.nir none) (within-fits p.scan_angle may.1),
    )

  module _ (not_28 : class_of (TwoByte a b) ≡ 28 → ⊥) where
    -- what the new flags say, the old ones show
    pub upgraded-shown : Shown (upgraded_flags (TwoByte a b)) (TwoByte a b)
    unfolding upgraded_flags
    upgraded-shown =
        let x = first_made in
        let y = second_made in
        record {
          return-number = sym x.return-number;
          number-of-returns = sym x.number-of-returns;
          direction = ap way (sym y.direction);
          edge = sym y.edge;
          class = refl;
          synthetic = sym y.synthetic;
          key_point = sym y.key_point;
          withheld = sym y.withheld;
          channel = sym y.channel;
          overlap = readings_agree a b not_28 ∙ sym y.overlap;
          overlap_standard = sym y.overlap;
        }

    pub upgraded-bytes : a < 256 → b < 256 → two_bytes_of (upgraded_flags (TwoByte a b)) ≡ Ok (a, b)
    unfolding upgraded_flags
    upgraded-bytes h l = shown-bytes _ _ _ a b h l upgraded-shown

    -- and an old point of them shows the one that it is brought up to
    pub upgraded-same : (p : Point) → p.flags ≡ TwoByte a b → nir_number p.nir ≡ 0 → (r : ℤ) → p.scan_angle ≡ Rank r → Same (upgraded_old p a b) p
    unfolding upgraded_old
    upgraded-same p two none r rank =
        record {
          x = refl;
          y = refl;
          z = refl;
          intensity = refl;
          flags = rw two upgraded-shown;
          scan_angle = rw (rank, nearest_back r);
          user_data = refl;
          point_source_id = refl;
          gps_time = refl;
          color = refl;
          waveform = refl;
          nir = none;
        }

-- where it has no near infrared a point is judged as the one that it is brought up to
pub upgraded-judged : (p : Point) → nir_number p.nir ≡ 0 → fit_of (upgraded_of p) ≡ fit_of p
unfolding upgraded_of
upgraded-judged p none = go p.flags refl
  where
    go : (f : Flags) → p.flags ≡ f → fit_of (upgraded_by p f) ≡ fit_of p
    go (TwoByte a b) is = old-judged a b p is none
    go (ThreeByte a b c) is = refl

-- of an old record, which has none
module _ (old : Format) (is_old : old.is_extended ≡ false) (without : old.has_nir ≡ false) (t : List ℕ) where
  pub record_none : nir_number (point_of old t).nir ≡ 0
  record_none = ap nir_number (no_nir old t without)

  pub record_fits : (fit_of (point_of old t) ≡ Ok tt) ↔ ((class_of (point_of old t).flags ≡ 28 → ⊥) × Within90 (point_of old t))
  record_fits = old-fits (num 1 14 t) (num 1 15 t) (point_of old t) (old_flags old t is_old) record_none

  pub record_same : (class_of (point_of old t).flags ≡ 28 → ⊥) → Same (upgraded_of (point_of old t)) (point_of old t)
  unfolding upgraded_of
  record_same not_28 =
      let two = old_flags old t is_old in
      subst (λ (f : Flags). Same (upgraded_by (point_of old t) f) (point_of old t)) (sym two) (upgraded-same (num 1 14 t) (num 1 15 t) (λ is. not_28 (ap class_of two ∙ is)) (point_of old t) two record_none _ (old_angle old t is_old))

-- an old record of zeros up to its rank, which is 104, shows what it is brought up to, and that is refused
module _ (old : Format) (is_old : old.is_extended ≡ false) (without : old.has_nir ≡ false) (rest : List ℕ) where
  abbrev ranked : List ℕ
  ranked = replicate 16 0 ++ (104 ∷ rest)

  flags_0 : (point_of old ranked).flags ≡ TwoByte 0 0
  flags_0 = old_flags old ranked is_old ∙ (λ i. TwoByte (num-one ranked 14 i) (num-one ranked 15 i))

  rank_104 : (point_of old ranked).scan_angle ≡ Rank (pos 104)
  rank_104 = old_angle old ranked is_old ∙ ap (λ (b : ℕ). Rank (to_z w8 b)) (num-one ranked 16)

  pub ranked-refused : fit_of (upgraded_of (point_of old ranked)) ≡ Err (Angle 17333)
  unfolding fit_of flags_fit_of readings_fit overlap_goes angle_fit_of rank_fits
  ranked-refused =
      upgraded-judged (point_of old ranked) (record_none old is_old without ranked)
      ∙ rw (flags_0, no_nir old ranked without, rank_104) (ap (λ (n : ℤ). Err (Angle (of_z w16 n))) (scaled-size (pos 104)))

  pub ranked_shows : Same (upgraded_of (point_of old ranked)) (point_of old ranked)
  ranked_shows = record_same old is_old without ranked (λ is. let zero : 0 ≡ 28 = ap class_of (sym flags_0) ∙ is in omega arith)
