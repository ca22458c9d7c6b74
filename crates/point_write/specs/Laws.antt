-- A record is what stands before the time, and the rest.
use Rattle.std.specs.Prelude.{Ok}
use Rattle.std.specs.Prelude.{ℕ, ◌≡◌, true, false, List, ◌++◌, length}
use Rattle.std.proofs.Math.Path.{refl}
use Rattle.fields.specs.Table.{joined}
use Rattle.format.specs.declared.Format.{Format}
use Rattle.format.specs.Fields.{rest_of, fields_of}
use Rattle.flags.specs.Bytes.{two_bytes_of}
use Rattle.point.specs.declared.Point.{Point}
use Rattle.point_bytes.specs.Bytes.{core_of, legacy_core_of}
use Rattle.point_write.specs.Write.{field_bytes, record_of}

module _ (f : Format) (p : Point) (e : List ℕ) where
  pub extended_is : f.is_extended ≡ true → record_of f p e ≡ core_of p ++ joined (field_bytes f p e) (rest_of f)
  unfolding record_of fields_of core_of
  extended_is h = simp h

  pub legacy_is : (a b : ℕ) → f.is_extended ≡ false → two_bytes_of p.flags ≡ Ok (a, b) → record_of f p e ≡ legacy_core_of p a b ++ joined (field_bytes f p e) (rest_of f)
  unfolding record_of fields_of legacy_core_of
  legacy_is a b h t = simp (h, t)

  -- the first has 22 bytes in extended formats, and 20 in legacy ones
  pub core-length : length (core_of p) ≡ 22
  unfolding core_of
  core-length = refl

  pub legacy_core-length : (a b : ℕ) → length (legacy_core_of p a b) ≡ 20
  unfolding legacy_core_of
  legacy_core-length a b = refl
