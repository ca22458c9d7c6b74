-- When a point goes into an old record whole, field by field, and the point that it is brought up from.
use Rattle.std.specs.Prelude.{Option, Some, None, Result, Ok, Err, ℕ, ◌≡◌, refl, Bool, true, false, not, ◌&&◌, eqb, ltb, ℤ, pos, negsuc}
use Rattle.refusal.specs.declared.Refusal.{Refusal}
use Rattle.std.proofs.Common.{ap, ◌∙◌, arith, ltb-false, eqb-true, SFits}
use Rattle.std.specs.Int.{w8}
use Rattle.flags.specs.Bytes.{two_bytes_of}
use Rattle.angle.specs.declared.ScanAngle.{ScanAngle}
use Rattle.angle.specs.declared.ScanAngle.TheVariants.{Rank, Scaled}
use Rattle.angle.specs.Angle.{nearest_rank, to_rank, to_scaled}
use Rattle.angle.specs.Ranks.{rank_exact}
use Rattle.angle.specs.Theorems.{nearest_back}
use Rattle.point.specs.declared.Point.{Point}
use Rattle.pairs.specs.Sound.{not-up}
use Rattle.strict.specs.Fit.{first_of, flags_fit_of, nir_fit_of, rank_fits, exact_rank, angle_fit_of, fit_of}
use Rattle.strict.specs.Laws.{not-refused, only-fits, fits_down}
use Rattle.strict.specs.Shown.{nir_number, Same, Within90}

-- ranks that fit are numbers of eight bits
fits_rank : (z : ℤ) → rank_fits z ≡ true → SFits w8 z
unfolding rank_fits
fits_rank (pos n) e = go (ltb 90 n) refl e
  where
    go : (t : Bool) → ltb 90 n ≡ t → not t ≡ true → SFits w8 (pos n)
    go true f e = not-up e
    go false f e = record { sfits = omega (arith, ltb-false 90 n f) }
fits_rank (negsuc n) e = go (ltb 89 n) refl e
  where
    go : (t : Bool) → ltb 89 n ≡ t → (not t && true) ≡ true → SFits w8 (negsuc n)
    go true f e = not-up e
    go false f e = record { sfits = omega (arith, ltb-false 89 n f) }

-- a rank brought up has its own degrees
scaled_exact : (a : ScanAngle) → nearest_rank (to_scaled a) ≡ exact_rank a
scaled_exact (Rank r) = nearest_back r
scaled_exact (Scaled n) = refl

module _ (a : ScanAngle) where
  -- an angle fits exactly where its nearest whole degree does
  pub fits-within : angle_fit_of a ≡ Ok tt → rank_fits (exact_rank a) ≡ true
  unfolding angle_fit_of
  fits-within = only-fits (rank_fits (exact_rank a)) _

  pub within-fits : rank_fits (exact_rank a) ≡ true → angle_fit_of a ≡ Ok tt
  unfolding angle_fit_of
  within-fits e = rw e

  -- and so it is judged as the scaled angle that it is brought up to
  pub scaled_alike : angle_fit_of (Scaled (to_scaled a)) ≡ angle_fit_of a
  unfolding angle_fit_of
  scaled_alike = rw (scaled_exact a)

-- the rank of an angle that fits is its nearest whole degree
pub angle_exact : (a : ScanAngle) → angle_fit_of a ≡ Ok tt → to_rank a ≡ exact_rank a
angle_exact (Rank r) e = refl
angle_exact (Scaled n) e = rank_exact n (fits_rank (nearest_rank n) (fits-within (Scaled n) e))

pub nir_none : (n : Option ℕ) → nir_fit_of n ≡ Ok tt → nir_number n ≡ 0
nir_none (Some n) e = eqb-true n 0 (only-fits (eqb n 0) _ e)
nir_none None e = refl

pub none-fits : (n : Option ℕ) → nir_number n ≡ 0 → nir_fit_of n ≡ Ok tt
none-fits (Some n) e = rw e
none-fits None e = refl

-- a point fits where its flags, its near infrared and its angle do
both_fit : (f g : Result Unit Refusal) → first_of f g ≡ Ok tt → (f ≡ Ok tt) × (g ≡ Ok tt)
both_fit (Ok _) g e = (refl, e)
both_fit (Err r) g e = not-refused r e

pub fit_parts : (p : Point) → fit_of p ≡ Ok tt → (flags_fit_of p.flags ≡ Ok tt) × (nir_fit_of p.nir ≡ Ok tt) × (angle_fit_of p.scan_angle ≡ Ok tt)
unfolding fit_of
fit_parts p e =
    let one = both_fit (flags_fit_of p.flags) _ e in
    let two = both_fit (nir_fit_of p.nir) _ one.1 in
    (one.0, two.0, two.1)

pub parts_fit : (p : Point) → flags_fit_of p.flags ≡ Ok tt → nir_fit_of p.nir ≡ Ok tt → angle_fit_of p.scan_angle ≡ Ok tt → fit_of p ≡ Ok tt
unfolding fit_of
parts_fit p f n a = rw (f, n, a)

-- what an old reader finds of a point that fits has a rank within ±90
pub same-within : {p q : Point} → Same p q → fit_of p ≡ Ok tt → Within90 q
same-within {p} same fits = ap (λ (a : ScanAngle). rank_fits (exact_rank a)) same.scan_angle ∙ fits-within p.scan_angle (fit_parts p fits).2

-- a point that fits has two bytes of flags
pub fits-two : (p : Point) → fit_of p ≡ Ok tt → (a : ℕ) × (b : ℕ) × (two_bytes_of p.flags ≡ Ok (a, b))
fits-two p e =
    let two = fits_down p.flags (fit_parts p e).0 in
    (two.first, two.second, two.bytes)
