-- The fields of a record are those that the format has: what holds of each of these holds of the record's, and the other way round.
use Rattle.std.specs.Prelude.{ℕ, ◌+◌, ◌≤◌, ◌≡◌, Bool, true, false, cond, List, [], ◌∷◌, ◌++◌}
use Rattle.std.proofs.Math.Path.{refl}
use Rattle.std.proofs.Common.{arith}
use Rattle.fields.specs.Table.{All, none, ◌&◌}
use Rattle.fields.specs.Laws.{within}
use Rattle.format.specs.declared.Format.{Format}
use Rattle.format.specs.declared.Field.{Field}
use Rattle.format.specs.declared.Field.TheVariants.{X, Y, Z, Intensity, Flags, UserData, ScanAngle, PointSourceId, GpsTime, Color, Nir, Waveform, ExtraBytes}
use Rattle.format.specs.Fields.{only, rest_of, fields_of, size_of, place_of, has_of, record_bytes}
use Rattle.format.specs.Laws.{fields_follow}

module _ (f : Format) (P : Field → Type 0) where
  and-only : (b : Bool) (x : Field) (xs : List Field) → (b ≡ true → P x) → All P xs → All P (only b x ++ xs)
  and-only true x xs p ps = p refl & ps
  and-only false x xs p ps = ps

  middle : (e : Bool) (xs : List Field) → P UserData → P ScanAngle → All P xs → All P (cond e (UserData ∷ ScanAngle ∷ []) (ScanAngle ∷ UserData ∷ []) ++ xs)
  middle true xs u a ps = u & a & ps
  middle false xs u a ps = a & u & ps

  pub each-field : ((x : Field) → has_of f x ≡ true → P x) → All P (fields_of f)
  unfolding fields_of
  each-field p =
      p X refl & p Y refl & p Z refl & p Intensity refl & p Flags refl &
      middle f.is_extended _ (p UserData refl) (p ScanAngle refl)
      (p PointSourceId refl &
      and-only f.has_gps_time GpsTime _ (p GpsTime)
      (and-only f.has_color Color _ (p Color)
      (and-only f.has_nir Nir _ (p Nir) (and-only f.has_waveform Waveform _ (p Waveform) (p ExtraBytes refl & none)))))

  -- the other way round, field after field
  or-only : (b : Bool) (x : Field) (xs : List Field) → All P (only b x ++ xs) → (b ≡ true → P x) × All P xs
  or-only true x xs (p & ps) = ((λ h. p), ps)
  or-only false x xs ps = ((λ h. let z : ◌≡◌ {A = ℕ} 0 1 = cc in absurd (omega arith)), ps)

  of_middle : (e : Bool) (xs : List Field) → All P (cond e (UserData ∷ ScanAngle ∷ []) (ScanAngle ∷ UserData ∷ []) ++ xs) → P UserData × P ScanAngle × All P xs
  of_middle true xs (u & a & ps) = (u, a, ps)
  of_middle false xs (a & u & ps) = (u, a, ps)

  last : All P (ExtraBytes ∷ []) → P ExtraBytes
  last (p & none) = p

  of-rest : P PointSourceId → All P (rest_of f) → (x : Field) → has_of f x ≡ true → P X → P Y → P Z → P Intensity → P Flags → P UserData → P ScanAngle → P x
  of-rest source ps x h px py pz pi pf pu pa =
      let time = or-only f.has_gps_time GpsTime _ ps in
      let color = or-only f.has_color Color _ time.1 in
      let nir = or-only f.has_nir Nir _ color.1 in
      let waveform = or-only f.has_waveform Waveform _ nir.1 in
      go x h time.0 color.0 nir.0 waveform.0 (last waveform.1)
    where
      go : (x : Field) → has_of f x ≡ true → (f.has_gps_time ≡ true → P GpsTime) → (f.has_color ≡ true → P Color) → (f.has_nir ≡ true → P Nir) → (f.has_waveform ≡ true → P Waveform) → P ExtraBytes → P x
      go X h t c n w e = px
      go Y h t c n w e = py
      go Z h t c n w e = pz
      go Intensity h t c n w e = pi
      go Flags h t c n w e = pf
      go UserData h t c n w e = pu
      go ScanAngle h t c n w e = pa
      go PointSourceId h t c n w e = source
      go GpsTime h t c n w e = t h
      go Color h t c n w e = c h
      go Nir h t c n w e = n h
      go Waveform h t c n w e = w h
      go ExtraBytes h t c n w e = e

  pub field-of : All P (fields_of f) → (x : Field) → has_of f x ≡ true → P x
  unfolding fields_of
  field-of (px & py & pz & pi & pf & ps) x h =
      let m = of_middle f.is_extended _ ps in
      from m.2 m.0 m.1
    where
      from : All P (PointSourceId ∷ rest_of f) → P UserData → P ScanAngle → P x
      from (source & rest) pu pa = of-rest source rest x h px py pz pi pf pu pa

-- each field that the format has ends within the record
pub field-within : (f : Format) (x : Field) → has_of f x ≡ true → place_of f x + size_of f x ≤ record_bytes f
unfolding record_bytes
field-within f =
    field-of f (λ x. place_of f x + size_of f x ≤ record_bytes f)
    (within (size_of f) (place_of f) (fields_of f) 0 (record_bytes f) (fields_follow f) (omega arith))
