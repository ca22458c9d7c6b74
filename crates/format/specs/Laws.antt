-- Laws of codes and of the field table.
use Rattle.std.specs.Prelude.{Ok}
use Rattle.std.specs.Prelude.{ℕ, ◌+◌, ◌≤◌, ◌<◌, ◌≡◌, Bool, true, false, cond, List, [], ◌∷◌, ◌++◌, leb}
use Rattle.std.proofs.Math.Path.{refl}
use Rattle.std.proofs.Common.{sym, ◌∙◌, add-zero, arith, lt-ltb}
use Rattle.fields.specs.Table.{total, Follow}
use Rattle.fields.specs.Total.{total-append}
use Rattle.format.specs.declared.Format.{Format}
use Rattle.format.specs.declared.Field.{Field}
use Rattle.format.specs.declared.Field.TheVariants.{UserData, ScanAngle, PointSourceId, GpsTime, Color, Nir, Waveform, ExtraBytes}
use Rattle.format.specs.Codes.{coded, format_of}
pub use Rattle.format.specs.Length.{len_is}
use Rattle.format.specs.Fields.{only, rest_of, fields_of, size_of, place_of, record_bytes, len_of}

-- a code of the standard has a format
pub code-known : (n : ℕ) → n < 11 → format_of n ≡ Ok (coded n false)
unfolding format_of
code-known n h = rw (lt-ltb _ _ h)

-- and is extended from 6 on
pub coded-extended : (n : ℕ) (compressed : Bool) → (coded n compressed).is_extended ≡ leb 6 n
unfolding coded
coded-extended n compressed = refl

-- what is there or not is at most what is there
pub when-le : (b : Bool) (n : ℕ) → cond b n 0 ≤ n
when-le true n = omega arith
when-le false n = omega arith

-- a place that is two bytes further on in extended formats
pub further : (n : ℕ) (b : Bool) → cond b (n + 2) n ≡ n + cond b 2 0
further n true = refl
further n false = sym (add-zero n)

pub after_source : (b : Bool) → cond b 22 20 ≡ cond b 20 18 + 2
after_source true = refl
after_source false = refl

module _ (f : Format) where
  -- a field that may be missing
  total-only : (b : Bool) (x : Field) → total (size_of f) (only b x) ≡ cond b (size_of f x) 0
  total-only true x = omega arith
  total-only false x = refl

  -- flags, angle and user data: one byte more for each of the first two in extended formats
  middle : (e : Bool) → f.is_extended ≡ e → cond e 3 2 + total (size_of f) (cond e (UserData ∷ ScanAngle ∷ []) (ScanAngle ∷ UserData ∷ [])) ≡ 4 + cond e 2 0
  middle true h = rw h
  middle false h = rw h

  -- a record's length, field by field
  pub record_sum : record_bytes f ≡ 20 + cond f.is_extended 2 0 + cond f.has_gps_time 8 0 + cond f.has_color 6 0 + cond f.has_nir 2 0 + cond f.has_waveform 29 0 + f.extra_bytes
  unfolding record_bytes fields_of
  record_sum = simp (total-append, total-only) (omega (arith, middle f.is_extended refl))

  -- so a record has bytes
  pub some_bytes : (n : ℕ) → len_of f ≡ Ok n → 0 < n
  some_bytes n e = omega (arith, len_is f n e, record_sum)

  -- a field that may be missing stands at its place where it is there
  abbrev Follows : ℕ → List Field → Type 0
  Follows = Follow (size_of f) (place_of f)

  follow_only : (b : Bool) (x : Field) (at : ℕ) (xs : List Field) → place_of f x ≡ at → Follows (at + cond b (size_of f x) 0) xs → Follows at (only b x ++ xs)
  follow_only true x at xs e r = λ i. e i ∷ r i
  follow_only false x at xs e r = rw add-zero at r

  pub rest_follow : Follows (place_of f GpsTime) (rest_of f)
  rest_follow =
      follow_only f.has_gps_time GpsTime (place_of f GpsTime) _ refl
      (follow_only f.has_color Color (place_of f Color) _ refl
      (follow_only f.has_nir Nir (place_of f Nir) _ refl
      (follow_only f.has_waveform Waveform (place_of f Waveform) _ refl refl)))

  -- a field at its place, and what follows it
  follow_next : (x : Field) (at next : ℕ) (xs : List Field) → place_of f x ≡ at → at + size_of f x ≡ next → Follows next xs → Follows at (x ∷ xs)
  follow_next x at next xs e s r = rw s (λ i. e i ∷ r i)

  middle_follow : (e : Bool) → f.is_extended ≡ e → Follows (14 + cond e 3 2) (cond e (UserData ∷ ScanAngle ∷ []) (ScanAngle ∷ UserData ∷ []) ++ (PointSourceId ∷ rest_of f))
  middle_follow true h =
      let p : place_of f GpsTime ≡ 22 = rw h in
      follow_next UserData 17 18 (ScanAngle ∷ PointSourceId ∷ rest_of f) refl refl
      (follow_next ScanAngle 18 20 (PointSourceId ∷ rest_of f) (rw h) (rw h)
      (follow_next PointSourceId 20 22 (rest_of f) (rw h) refl (rw p at rest_follow)))
  middle_follow false h =
      let p : place_of f GpsTime ≡ 20 = rw h in
      follow_next ScanAngle 16 17 (UserData ∷ PointSourceId ∷ rest_of f) (rw h) (rw h)
      (follow_next UserData 17 18 (PointSourceId ∷ rest_of f) refl refl
      (follow_next PointSourceId 18 20 (rest_of f) (rw h) refl (rw p at rest_follow)))

  -- the fields of a record follow each other from its first byte on
  pub fields_follow : Follows 0 (fields_of f)
  unfolding fields_of
  fields_follow = λ i. 0 ∷ 4 ∷ 8 ∷ 12 ∷ 14 ∷ middle_follow f.is_extended refl i

  -- the extra bytes are the last, and what stands before them is at most 67 bytes
  pub record_end : record_bytes f ≡ place_of f ExtraBytes + f.extra_bytes
  record_end = record_sum ∙ rw (further 20 f.is_extended)

  pub fixed_le : place_of f ExtraBytes ≤ 67
  fixed_le =
      rw (further 20 f.is_extended)
      (omega (arith, when-le f.is_extended 2, when-le f.has_gps_time 8, when-le f.has_color 6, when-le f.has_nir 2, when-le f.has_waveform 29))

  -- what stands from the time on is the rest of the record
  pub rest_sum : record_bytes f ≡ place_of f GpsTime + total (size_of f) (rest_of f)
  rest_sum = record_sum ∙ rw (further 20 f.is_extended) (simp (total-append, total-only) (omega arith))
