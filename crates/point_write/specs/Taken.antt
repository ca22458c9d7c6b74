-- A point that the writer takes: its record has the format's length, field by field, and is written where there is room.
use Rattle.std.specs.Prelude.{Option, Some, None, Result, Ok, Err}
use Rattle.le.specs.declared.float.F64.{F64}
use Rattle.std.specs.Prelude.{ℕ, ◌≤◌, ◌≡◌, Bool, List, [], ◌∷◌, ◌++◌, length}
use Rattle.std.proofs.Math.Path.{refl, ap}
use Rattle.std.proofs.Common.{◌∙◌, arith}
use Rattle.std.proofs.Math.Bool.{true, false, cond}
use borrow.Author.Tests.{eq-eqb, le-ltb}
use Rattle.std.proofs.Math.ListN.{drop}
use Rattle.le.specs.Le.{num, bytes}
use Rattle.refusal.specs.declared.Refusal.{Refusal}
use Rattle.fields.specs.Table.{All, none, ◌&◌, joined}
use Rattle.fields.specs.Laws.{every, length-joined}
use Rattle.format.specs.declared.Format.{Format}
use Rattle.format.specs.declared.Field.{Field}
use Rattle.point.specs.declared.Color as color
use Rattle.point.specs.declared.Waveform as waveform
use Rattle.format.specs.declared.Field.TheVariants.{X, Y, Z, Intensity, Flags, UserData, ScanAngle, PointSourceId, GpsTime, Color, Nir, Waveform, ExtraBytes}
use Rattle.format.specs.Fields.{fields_of, size_of, has_of, record_bytes, len_of}
use Rattle.format.specs.Each.{each-field}
use Rattle.flags.specs.declared.ThreeBytes.{ThreeBytes}
use Rattle.flags.specs.Bytes.{two_bytes_of, three_bytes_of}
use Rattle.flags.specs.Laws.{two_kept}
use Rattle.point.specs.declared.Point.{Point}
use Rattle.point.specs.Read.{field_of, point_of}
use Rattle.point.specs.Kind.{old_flags}
use Rattle.point.specs.Answer.{extra-length}
use Rattle.point_bytes.specs.Bytes.{time_bytes, color_bytes, nir_bytes, waveform_bytes, three_list}
use Rattle.point_write.specs.Write.{two_list, field_bytes, record_of, flagged_of, sized_of, written_after, written_of}

-- in a legacy format its flags have two bytes, and there are as many extra bytes as the format's
pub record Taken (f : Format) (p : Point) (e : List ℕ) : Type 0 where
  pub flags : f.is_extended ≡ false → (a : ℕ) × (b : ℕ) × (two_bytes_of p.flags ≡ Ok (a, b))
  pub extra : length e ≡ f.extra_bytes

-- in an extended format any flags do, and in a legacy one those that have two bytes
pub extended-taken : (f : Format) (p : Point) (e : List ℕ) → f.is_extended ≡ true → length e ≡ f.extra_bytes → Taken f p e
extended-taken f p e new extra =
    record { flags = (λ old. let z : ◌≡◌ {A = ℕ} 0 1 = cc in absurd (omega arith)); extra = extra }

pub legacy_taken : (f : Format) (p : Point) (e : List ℕ) (a b : ℕ) → two_bytes_of p.flags ≡ Ok (a, b) → length e ≡ f.extra_bytes → Taken f p e
legacy_taken f p e a b is extra = record { flags = (λ old. (a, b, is)); extra = extra }

-- two or three bytes of flags, and an angle of one or two
flags_length : (c : Bool) (t : ThreeBytes) (w : Result (ℕ × ℕ) Refusal) → (c ≡ false → (a : ℕ) × (b : ℕ) × (w ≡ Ok (a, b))) → length (cond c (three_list t) (two_list w)) ≡ cond c 3 2
flags_length true t w h = refl
flags_length false t w h = rw (h refl).2

angle_length : (c : Bool) (n m : ℕ) → length (cond c (bytes 2 n) (m ∷ [])) ≡ cond c 2 1
angle_length true n m = refl
angle_length false n m = refl

-- what a format may lack, in the table's bytes
pub time_length : (t : Option F64) → length (time_bytes t) ≡ 8
time_length (Some t) = refl
time_length None = refl

pub color_length : (c : Option color.Color) → length (color_bytes c) ≡ 6
color_length (Some c) = refl
color_length None = refl

pub nir_length : (n : Option ℕ) → length (nir_bytes n) ≡ 2
nir_length (Some n) = refl
nir_length None = refl

pub waveform_length : (w : Option waveform.Waveform) → length (waveform_bytes w) ≡ 29
waveform_length (Some w) = refl
waveform_length None = refl

module _ (f : Format) (p : Point) (e : List ℕ) (taken : Taken f p e) where
  -- each field has the table's size, and so has the record
  pub field-length : (x : Field) → length (field_bytes f p e x) ≡ size_of f x
  field-length X = refl
  field-length Y = refl
  field-length Z = refl
  field-length Intensity = refl
  field-length Flags = flags_length f.is_extended (three_bytes_of p.flags) (two_bytes_of p.flags) taken.flags
  field-length UserData = refl
  field-length ScanAngle = angle_length f.is_extended _ _
  field-length PointSourceId = refl
  field-length GpsTime = time_length p.gps_time
  field-length Color = color_length p.color
  field-length Nir = nir_length p.nir
  field-length Waveform = waveform_length p.waveform
  field-length ExtraBytes = taken.extra

  pub record_length_lem : length (record_of f p e) ≡ record_bytes f
  unfolding record_of record_bytes
  record_length_lem = length-joined (size_of f) (field_bytes f p e) (fields_of f) (every field-length (fields_of f))

  -- it is written at the front, and what lies past it stays
  module _ (n : ℕ) (d : List ℕ) (room : n ≤ length d) where
    pub taken-sized : sized_of f p e n d ≡ (Ok n, record_of f p e ++ drop n d)
    unfolding sized_of
    taken-sized = rw (eq-eqb _ _ taken.extra, le-ltb (length d) n room) (go f.is_extended taken.flags)
      where
        go : (c : Bool) → (c ≡ false → (a : ℕ) × (b : ℕ) × (two_bytes_of p.flags ≡ Ok (a, b))) → cond c (Ok n, record_of f p e ++ drop n d) (flagged_of f p e n d (two_bytes_of p.flags)) ≡ (Ok n, record_of f p e ++ drop n d)
        go true h = refl
        go false h = ap (flagged_of f p e n d) (h refl).2

    pub taken-written : len_of f ≡ Ok n → written_of f p e d ≡ (Ok n, record_of f p e ++ drop n d)
    unfolding written_of
    taken-written long = ap (written_after f p e d) long ∙ taken-sized

-- flags that have none are refused as the flags' own
pub flags_refused : (f : Format) (p : Point) (e : List ℕ) (n : ℕ) (d : List ℕ) (r : Refusal) → length e ≡ f.extra_bytes → n ≤ length d → f.is_extended ≡ false → two_bytes_of p.flags ≡ Err r → sized_of f p e n d ≡ (Err r, d)
unfolding sized_of
flags_refused f p e n d r extra room old is = rw (eq-eqb _ _ extra, le-ltb (length d) n room, old, is)

-- what a reader answers of a record that is there: an old format reads two bytes of flags, which fit
pub read_taken : (f : Format) (s : List ℕ) → record_bytes f ≤ length s → Taken f (point_of f s) (field_of f ExtraBytes s)
read_taken f s h =
    record { flags = (λ old. (num 1 14 s, num 1 15 s, ap two_bytes_of (old_flags f s old) ∙ two_kept _ _)); extra = extra-length f s h }

-- a record is its fields: points alike in each field that the format has are written alike
pub record_same : (f : Format) (p q : Point) (e : List ℕ) → ((x : Field) → has_of f x ≡ true → field_bytes f p e x ≡ field_bytes f q e x) → record_of f p e ≡ record_of f q e
unfolding record_of
record_same f p q e same = go (each-field f (λ x. field_bytes f p e x ≡ field_bytes f q e x) same)
  where
    go : {xs : List Field} → All (λ x. field_bytes f p e x ≡ field_bytes f q e x) xs → joined (field_bytes f p e) xs ≡ joined (field_bytes f q e) xs
    go none = refl
    go (h & hs) = λ i. h i ++ go hs i
