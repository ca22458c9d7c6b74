-- What it is to be of a version and of one of two formats.
use Rattle.std.specs.Prelude.{ℕ, ◌≡◌, refl, Bool, true, false, ◌||◌, ◌⊎◌, eqb}
use Rattle.std.proofs.Math.Bool.{and-eq-true_iff, or-true}
use Rattle.std.proofs.Common.{inl, inr, eqb-true, eq-eqb}
use Rattle.header.specs.declared.Header.{Header}
use Rattle.header_convert.specs.Turned.{is_of}

either : (a b : Bool) → a || b ≡ true → (a ≡ true) ⊎ (b ≡ true)
either true b p = inl refl
either false b p = inr p

module _ (minor one other : ℕ) (h : Header) (is : is_of minor one other h ≡ true) where
  parts : (eqb h.version.major 1 ≡ true) × (eqb h.version.minor minor ≡ true) × (eqb h.point_data_record_format one || eqb h.point_data_record_format other ≡ true)
  unfolding is_of
  parts =
      let major = (and-eq-true_iff (eqb h.version.major 1) _).0 is in
      let rest = (and-eq-true_iff (eqb h.version.minor minor) _).0 major.1 in
      (major.0, rest.0, rest.1)

  pub version_is : h.version.minor ≡ minor
  version_is = eqb-true _ _ parts.1

  pub format_is : (h.point_data_record_format ≡ one) ⊎ (h.point_data_record_format ≡ other)
  format_is = go (either _ _ parts.2)
    where
      go : (eqb h.point_data_record_format one ≡ true) ⊎ (eqb h.point_data_record_format other ≡ true) → (h.point_data_record_format ≡ one) ⊎ (h.point_data_record_format ≡ other)
      go (inl e) = inl (eqb-true _ _ e)
      go (inr e) = inr (eqb-true _ _ e)

-- and it is so where these hold
pub is-of : (minor one other : ℕ) (h : Header) → h.version.major ≡ 1 → h.version.minor ≡ minor → (h.point_data_record_format ≡ one) ⊎ (h.point_data_record_format ≡ other) → is_of minor one other h ≡ true
unfolding is_of
is-of minor one other h major is (inl e) = rw (eq-eqb _ 1 major, eq-eqb _ minor is, eq-eqb _ one e)
is-of minor one other h major is (inr e) = rw (eq-eqb _ 1 major, eq-eqb _ minor is, eq-eqb _ other e) (or-true (eqb h.point_data_record_format one))
