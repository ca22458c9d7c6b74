-- What an old reader is shown of a point. Document 01, "Strict conversion": "the old reader of demand 3 is the Rust's and the
-- standard's both".
use Rattle.std.specs.Prelude.{Option, Some, None, Ok, ℕ, ◌≡◌, true, List}
use Rattle.std.specs.Int.{w16}
use Rattle.std.proofs.Common.{of_z}
use Rattle.le.specs.Le as le
use Rattle.format.specs.declared.Format.{Format}
use Rattle.format.specs.declared.Field.TheVariants.{ExtraBytes}
use Rattle.refusal.specs.declared.Refusal.{Refusal}
use Rattle.refusal.specs.declared.Refusal.TheVariants.{ReturnNumber, NumberOfReturns, Class, Channel, Overlap, Nir, Angle}
use Rattle.flags.specs.declared.Flags.{Flags}
use Rattle.flags.specs.declared.Flags.TheVariants.{TwoByte}
use Rattle.flags.specs.Readings.{return_number_of, number_of_returns_of, direction_of, edge_of, class_of, synthetic_of, key_point_of, withheld_of, overlap_of, standard_overlap_of, channel_of}
use Rattle.flags.specs.Bytes.{two_bytes_of}
use Rattle.angle.specs.declared.ScanAngle.TheVariants.{Rank}
use Rattle.angle.specs.Angle.{to_scaled}
use Rattle.point.specs.declared.Point.{Point}
use Rattle.point.specs.Read.{field_of, point_of}
use Rattle.point_write.specs.Write.{record_of}
use Rattle.strict.specs.Fit.{rank_fits, exact_rank}
use Rattle.strict.specs.Upgrade.{upgraded_of}

-- g says in every reading what f says; overlap by the Rust's reading of g and by the standard's
pub record Shown (f g : Flags) : Type 0 where
  pub return-number : return_number_of g ≡ return_number_of f
  pub number-of-returns : number_of_returns_of g ≡ number_of_returns_of f
  pub direction : direction_of g ≡ direction_of f
  pub edge : edge_of g ≡ edge_of f
  pub class : class_of g ≡ class_of f
  pub synthetic : synthetic_of g ≡ synthetic_of f
  pub key_point : key_point_of g ≡ key_point_of f
  pub withheld : withheld_of g ≡ withheld_of f
  pub channel : channel_of g ≡ channel_of f
  pub overlap : overlap_of g ≡ overlap_of f
  pub overlap_standard : standard_overlap_of g ≡ overlap_of f

-- the plain conversion gives two bytes that show the same
pub record Down (f : Flags) : Type 0 where
  pub first : ℕ
  pub second : ℕ
  pub bytes : two_bytes_of f ≡ Ok (first, second)
  pub shown : Shown f (TwoByte first second)

-- document 02, No. 5: "demand 3 reads a missing NIR, in the old record or the new, as zero"
abbrev pub nir_number : Option ℕ → ℕ
nir_number (Some n) = n
nir_number None = 0

-- "the same value in every field": q is what an old reader finds of p
pub record Same (p q : Point) : Type 0 where
  pub x : q.x ≡ p.x
  pub y : q.y ≡ p.y
  pub z : q.z ≡ p.z
  pub intensity : q.intensity ≡ p.intensity
  pub flags : Shown p.flags q.flags
  pub scan_angle : q.scan_angle ≡ Rank (exact_rank p.scan_angle)
  pub user_data : q.user_data ≡ p.user_data
  pub point_source_id : q.point_source_id ≡ p.point_source_id
  pub gps_time : q.gps_time ≡ p.gps_time
  pub color : q.color ≡ p.color
  pub waveform : q.waveform ≡ p.waveform
  pub nir : nir_number q.nir ≡ nir_number p.nir

-- "the old rank within ±90", as an old record of the standard has it; a byte can hold others
abbrev pub Within90 : Point → Type 0
Within90 q = rank_fits (exact_rank q.scan_angle) ≡ true

-- no old record says it: in no list of bytes does an old reader find such a point
abbrev pub Never : Format → (Point → Type 0) → Type 0
Never old says = (t : List ℕ) → le.Bytes t → says (point_of old t) → ⊥

-- What a refusal names, with its value: a reading that no old record has; the class, where none has it with the overlap that is
-- said, as both old readers take it; near infrared; an angle whose nearest whole degree is no rank of the standard's.
pub data Unshown (old : Format) (p : Point) : Refusal → Type 0 where
  return-number : Never old (λ q. return_number_of q.flags ≡ return_number_of p.flags) → Unshown old p (ReturnNumber (return_number_of p.flags))
  number-of-returns : Never old (λ q. number_of_returns_of q.flags ≡ number_of_returns_of p.flags) → Unshown old p (NumberOfReturns (number_of_returns_of p.flags))
  class : Never old (λ q. class_of q.flags ≡ class_of p.flags) → Unshown old p (Class (class_of p.flags))
  channel : Never old (λ q. channel_of q.flags ≡ channel_of p.flags) → Unshown old p (Channel (channel_of p.flags))
  overlap : Never old (λ q. (class_of q.flags ≡ class_of p.flags) × (overlap_of q.flags ≡ overlap_of p.flags) × (standard_overlap_of q.flags ≡ overlap_of p.flags)) → Unshown old p (Overlap (class_of p.flags))
  nir : Never old (λ q. nir_number q.nir ≡ nir_number p.nir) → Unshown old p (Nir (nir_number p.nir))
  angle : Never old (λ q. Within90 q × (q.scan_angle ≡ Rank (exact_rank p.scan_angle))) → Unshown old p (Angle (of_z w16 (to_scaled p.scan_angle)))

-- the bytes that stand for the record s in the other format of a pair: its point's, and its extra bytes
abbrev pub down_image : Format → Format → List ℕ → List ℕ
down_image new old s = record_of old (point_of new s) (field_of new ExtraBytes s)

abbrev pub up_image : Format → Format → List ℕ → List ℕ
up_image old new s = record_of new (upgraded_of (point_of old s)) (field_of old ExtraBytes s)
