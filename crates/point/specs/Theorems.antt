-- What the reader says of near infrared.
use Rattle.std.specs.Prelude.{Some, None, Ok}
use Rattle.std.specs.Prelude.{ℕ, ◌≡◌, true, false, List}
use Rattle.std.proofs.Common.{ap, ◌∙◌}
use Rattle.format.specs.declared.Format.{Format}
use Rattle.format.specs.declared.Field.TheVariants.{Nir}
use Rattle.point.specs.declared.Point.{Point}
use Rattle.point.specs.Read.{number_in, read_of}
use Rattle.point.specs.Kind.{stored_nir, no_nir}
use Rattle.point.specs.Answer.{answered}

module _ (f : Format) (s : List ℕ) (p : Point) (read : read_of f s ≡ Ok p) where
  -- Document 02, No. 5: "Reading a format 8 or 10 record must give zero as a value", by the attribute: a format with the field shows the
  -- number that the record stores there, whichever it is.
  pub nir_shown : f.has_nir ≡ true → p.nir ≡ Some (number_in f Nir s)
  nir_shown has = ap (λ (q : Point). q.nir) (answered f s p read).point ∙ stored_nir f s has

  -- "missing remains for formats without the field"
  pub nir_missing : f.has_nir ≡ false → p.nir ≡ None
  nir_missing lacks = ap (λ (q : Point). q.nir) (answered f s p read).point ∙ no_nir f s lacks
