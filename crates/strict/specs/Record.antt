-- What an old record is read as, of a point that fits; and an old point brought up and written down again.
use Rattle.std.specs.Prelude.{Option, Some, None, Result, Ok, Err, ℕ, ◌*◌, ◌/◌, ◌<◌, ◌≤◌, ◌≡◌, Bool, true, false, List, ◌++◌, nat_abs, length, take, drop}
use Rattle.refusal.specs.declared.Refusal.{Refusal}
use Rattle.std.proofs.Math.Path.{refl, ap, sym, subst}
use Rattle.std.proofs.Common.{◌∙◌, arith}
use Rattle.std.specs.Int.Signed.{nat_abs-le}
use Rattle.std.specs.Int.{w16}
use Rattle.le.specs.Le.{Bytes}
use Rattle.le.specs.Laws.{bytes_take, bytes_drop}
use Rattle.format.specs.declared.Format.{Format}
use Rattle.format.specs.declared.Field.{Field}
use Rattle.format.specs.declared.Field.TheVariants.{X, Y, Z, Intensity, Flags, UserData, ScanAngle, PointSourceId, GpsTime, Color, Nir, Waveform, ExtraBytes}
use Rattle.format.specs.Fields.{size_of, place_of, has_of, record_bytes}
use Rattle.flags.specs.declared.Flags as flags
use Rattle.flags.specs.declared.Flags.TheVariants.{TwoByte, ThreeByte}
use Rattle.flags.specs.Readings.{return_number_of, number_of_returns_of, direction_bit, edge_of, class_of, synthetic_of, key_point_of, withheld_of}
use Rattle.flags.specs.Bytes.{two_bytes_of}
use Rattle.flags.specs.Laws.{two_kept}
use Rattle.angle.specs.declared.ScanAngle as angle
use Rattle.angle.specs.declared.ScanAngle.TheVariants.{Rank, Scaled}
use Rattle.angle.specs.Angle.{to_rank, to_scaled}
use Rattle.angle.specs.Ranks.{rank_fits_lem}
use Rattle.angle.specs.Sign.{scaled-size, sided-fits}
use Rattle.angle.specs.Theorems.{rank_kept}
use Rattle.point.specs.declared.Point.{Point}
use Rattle.point.specs.Read.{field_of, point_of}
use Rattle.point_write.specs.Write.{two_list, field_bytes, record_of}
use Rattle.point_write.specs.Taken.{record_length_lem, record_same}
use Rattle.point_write.specs.Again.{held-taken}
use Rattle.point_write.specs.Octets.{record_made}
use Rattle.point_write.specs.Held.{FlagsHeld, AngleHeld, TimeHeld, ColorHeld, NirHeld, WaveformHeld, Held, nir_in, shown_in}
use Rattle.point_write.specs.Theorems.{read_then_written, read_is_held, written_then_read, extra-written_then_read, missing_then_zero, extra-beside_missing}
use Rattle.strict.specs.Fit.{first_of, flags_fit_of, nir_fit_of, angle_fit_of, fit_of}
use Rattle.strict.specs.Upgrade.{upgraded_flags, upgraded_old, upgraded_of}
use Rattle.pairs.specs.Paired.{Paired}
use Rattle.pairs.specs.Sound.{not-up}
use Rattle.strict.specs.Shown.{Same, down_image, up_image}
use Rattle.strict.specs.Made.{old-first, old_second_lem}
use Rattle.strict.specs.Laws.{fitting, bytes-of_fitting, fits_down}
use Rattle.strict.specs.Whole.{fit_parts, angle_exact, nir_none}
use Rattle.strict.specs.Back.{upgraded-held, old-judged, upgraded-bytes, record_none}

-- the point that an old record has of p: its two bytes of flags, its rank, and no near infrared
abbrev pub down_flags : Result (ℕ × ℕ) Refusal → flags.Flags
down_flags (Ok (a, b)) = TwoByte a b
down_flags (Err r) = TwoByte 0 0

unfoldable pub down_of : Point → Point
down_of p =
    record {
      x = p.x;
      y = p.y;
      z = p.z;
      intensity = p.intensity;
      flags = down_flags (two_bytes_of p.flags);
      scan_angle = Rank (to_rank p.scan_angle);
      user_data = p.user_data;
      point_source_id = p.point_source_id;
      gps_time = p.gps_time;
      color = p.color;
      waveform = p.waveform;
      nir = None;
    }

-- an old format's record is that point's
module _ (old : Format) (p : Point) (e : List ℕ) (is_old : old.is_extended ≡ false) (no_nir : old.has_nir ≡ false) where
  pub down_record : (a b : ℕ) → two_bytes_of p.flags ≡ Ok (a, b) → record_of old p e ≡ record_of old (down_of p) e
  unfolding down_of
  down_record a b t = record_same old p (down_of p) e same
    where
      flags_same : two_bytes_of p.flags ≡ two_bytes_of (down_flags (two_bytes_of p.flags))
      flags_same = rw t (sym (two_kept a b))

      same : (x : Field) → has_of old x ≡ true → field_bytes old p e x ≡ field_bytes old (down_of p) e x
      same X has = refl
      same Y has = refl
      same Z has = refl
      same Intensity has = refl
      same Flags has = rw is_old (ap two_list flags_same)
      same UserData has = refl
      same ScanAngle has = rw is_old
      same PointSourceId has = refl
      same GpsTime has = refl
      same Color has = refl
      same Nir has = not-up (sym no_nir ∙ has)
      same Waveform has = refl
      same ExtraBytes has = refl

-- what the new format holds of flags and angle the old one holds of theirs
flags-down : (f : flags.Flags) → FlagsHeld true f → flags_fit_of f ≡ Ok tt → FlagsHeld false (down_flags (two_bytes_of f))
flags-down (TwoByte a b) h fits = absurd h
flags-down (ThreeByte a b c) h fits =
    let f = ThreeByte a b c in
    let said = fitting a b c fits in
    let x = old-first (return_number_of f) (number_of_returns_of f) (direction_bit f) (edge_of f) said.return-number said.number-of-returns in
    let y = old_second_lem c (synthetic_of f) (key_point_of f) (withheld_of f) said.class-fits in
    rw (bytes-of_fitting a b c fits) (x.small, y.small)

angle-down : (a : angle.ScanAngle) → AngleHeld true a → AngleHeld false (Rank (to_rank a))
angle-down (Rank r) h = absurd h
angle-down (Scaled n) h = rank_fits_lem n

module _ (new old : Format) (pair : Paired new old) (p : Point) (e : List ℕ) where
  module _ (has : Held new p e) (fits : fit_of p ≡ Ok tt) where
    down_held : Held old (down_of p) e
    unfolding down_of
    down_held =
        record {
          x = has.x;
          y = has.y;
          z = has.z;
          intensity = has.intensity;
          flags = rw pair.is_old (flags-down p.flags (subst (λ (b : Bool). FlagsHeld b p.flags) pair.is_new has.flags) (fit_parts p fits).0);
          scan_angle = rw pair.is_old (angle-down p.scan_angle (subst (λ (b : Bool). AngleHeld b p.scan_angle) pair.is_new has.scan_angle));
          user_data = has.user_data;
          point_source_id = has.point_source_id;
          gps_time = subst (λ (b : Bool). TimeHeld b p.gps_time) pair.time has.gps_time;
          color = subst (λ (b : Bool). ColorHeld b p.color) pair.color has.color;
          waveform = subst (λ (b : Bool). WaveformHeld b p.waveform) pair.waveform has.waveform;
          nir = rw pair.no_nir tt;
          extra = has.extra ∙ pair.extra;
        }

    -- the record is that point's
    same_record : record_of old p e ≡ record_of old (down_of p) e
    same_record =
        let two = fits_down p.flags (fit_parts p fits).0 in
        down_record old p e pair.is_old pair.no_nir two.first two.second two.bytes

    -- so an old reader finds that point in it, and the extra bytes
    pub down_read : (rest : List ℕ) → (point_of old (record_of old p e ++ rest) ≡ down_of p) × (field_of old ExtraBytes (record_of old p e ++ rest) ≡ e)
    down_read rest = (
      ap (λ (l : List ℕ). point_of old (l ++ rest)) same_record ∙ written_then_read old (down_of p) e down_held rest,
      ap (λ (l : List ℕ). field_of old ExtraBytes (l ++ rest)) same_record ∙ extra-written_then_read old (down_of p) e down_held rest,
    )

    -- and the record is one of bytes, of the old format's length
    pub down_bytes : Bytes e → Bytes (record_of old p e) × (length (record_of old p e) ≡ record_bytes old)
    down_bytes extra = rw same_record (record_made old (down_of p) e down_held extra, record_length_lem old (down_of p) e (held-taken old (down_of p) e down_held))

  -- what that point shows
  pub down_same : fit_of p ≡ Ok tt → Same p (down_of p)
  unfolding down_of
  down_same fits =
      let fit = fit_parts p fits in
      let two = fits_down p.flags fit.0 in
      record {
        x = refl;
        y = refl;
        z = refl;
        intensity = refl;
        flags = rw two.bytes two.shown;
        scan_angle = ap Rank (angle_exact p.scan_angle fit.2);
        user_data = refl;
        point_source_id = refl;
        gps_time = refl;
        color = refl;
        waveform = refl;
        nir = sym (nir_none p.nir fit.1);
      }

-- a rank brought up is a scaled angle, and comes back
angle-up : (a : angle.ScanAngle) → AngleHeld false a → AngleHeld true (Scaled (to_scaled a))
angle-up (Scaled n) h = absurd h
angle-up (Rank r) h =
    let small : nat_abs r ≤ 128 = nat_abs-le r h.sfits in
    rw scaled-size (sided-fits w16 r (500 * nat_abs r / 3) (omega arith))

angle_back : (a : angle.ScanAngle) → AngleHeld false a → Rank (to_rank (Scaled (to_scaled a))) ≡ a
angle_back (Scaled n) h = absurd h
angle_back (Rank r) h = ap Rank (rank_kept r h)

nir_back : (n : Option ℕ) → NirHeld false n → None ≡ n
nir_back (Some n) h = absurd h
nir_back None h = refl

-- a missing near infrared is held, and judged, as it is shown: as 0 where the format has one
none-held : (has : Bool) → NirHeld has (nir_in has None)
none-held true = omega arith
none-held false = tt

shown-judged : (f : Format) (p : Point) → fit_of (shown_in f p) ≡ fit_of p
unfolding fit_of
shown-judged f p = ap (λ (x : Result Unit Refusal). first_of (flags_fit_of p.flags) (first_of x (angle_fit_of p.scan_angle))) (go f.has_nir p.nir)
  where
    go : (has : Bool) (n : Option ℕ) → nir_fit_of (nir_in has n) ≡ nir_fit_of n
    go true (Some n) = refl
    go true None = refl
    go false n = refl

-- an old point of two bytes of flags
module _ (new old : Format) (pair : Paired new old) (p : Point) (e : List ℕ) (has : Held old p e) (a b : ℕ) (is_two : p.flags ≡ TwoByte a b) where
  angle_held : AngleHeld false p.scan_angle
  angle_held = subst (λ (c : Bool). AngleHeld c p.scan_angle) pair.is_old has.scan_angle

  flags_held : (a < 256) × (b < 256)
  flags_held =
      let h : FlagsHeld false p.flags = subst (λ (c : Bool). FlagsHeld c p.flags) pair.is_old has.flags in
      subst (FlagsHeld false) is_two h

  -- what the new format shows of it, brought up, and holds
  abbrev up : Point
  up = shown_in new (upgraded_old p a b)

  pub up-held : Held new up e
  unfolding upgraded_old
  up-held =
      record {
        x = has.x;
        y = has.y;
        z = has.z;
        intensity = has.intensity;
        flags = rw pair.is_new (upgraded-held a b);
        scan_angle = rw pair.is_new (angle-up p.scan_angle angle_held);
        user_data = has.user_data;
        point_source_id = has.point_source_id;
        gps_time = subst (λ (c : Bool). TimeHeld c p.gps_time) (sym pair.time) has.gps_time;
        color = subst (λ (c : Bool). ColorHeld c p.color) (sym pair.color) has.color;
        waveform = subst (λ (c : Bool). WaveformHeld c p.waveform) (sym pair.waveform) has.waveform;
        nir = none-held new.has_nir;
        extra = has.extra ∙ sym pair.extra;
      }

  module _ (not_28 : class_of (TwoByte a b) ≡ 28 → ⊥) where
    bytes_back : two_bytes_of (upgraded_flags (TwoByte a b)) ≡ Ok (a, b)
    bytes_back = upgraded-bytes a b not_28 flags_held.0 flags_held.1

    -- and its old point is the one that it came from
    down_up : down_of up ≡ p
    unfolding down_of upgraded_old
    down_up = λ i. record {
      x = p.x;
      y = p.y;
      z = p.z;
      intensity = p.intensity;
      flags = (ap down_flags bytes_back ∙ sym is_two) i;
      scan_angle = angle_back p.scan_angle angle_held i;
      user_data = p.user_data;
      point_source_id = p.point_source_id;
      gps_time = p.gps_time;
      color = p.color;
      waveform = p.waveform;
      nir = nir_back p.nir (subst (λ (c : Bool). NirHeld c p.nir) pair.no_nir has.nir) i;
    }

    pub up_down : record_of old up e ≡ record_of old p e
    unfolding upgraded_old
    up_down =
        down_record old up e pair.is_old pair.no_nir a b bytes_back
        ∙ ap (λ (q : Point). record_of old q e) down_up

-- the same of a record's bytes
module _ (new old : Format) (pair : Paired new old) (s : List ℕ) (all : Bytes s) (rest : List ℕ) where
  pub image_same : record_bytes new ≤ length s → fit_of (point_of new s) ≡ Ok tt → Same (point_of new s) (point_of old (down_image new old s ++ rest)) × (field_of old ExtraBytes (down_image new old s ++ rest) ≡ field_of new ExtraBytes s)
  image_same long fits =
      let p = point_of new s in
      let e = field_of new ExtraBytes s in
      let read = down_read new old pair p e (read_is_held new s all long) fits rest in
      (rw read.0 (down_same new old pair p e fits), read.1)

  pub image_bytes : record_bytes new ≤ length s → fit_of (point_of new s) ≡ Ok tt → Bytes (down_image new old s) × (length (down_image new old s) ≡ record_bytes old)
  image_bytes long fits =
      down_bytes new old pair (point_of new s) (field_of new ExtraBytes s) (read_is_held new s all long) fits (bytes_take (size_of new ExtraBytes) (drop (place_of new ExtraBytes) s) (bytes_drop (place_of new ExtraBytes) s all))

  -- what a record is brought up to is judged as it is, and has its bytes where its class isn't 28
  pub image_back : record_bytes old ≤ length s → (fit_of (point_of new (up_image old new s ++ rest)) ≡ fit_of (point_of old s)) × ((class_of (point_of old s).flags ≡ 28 → ⊥) → down_image new old (up_image old new s ++ rest) ≡ take (record_bytes old) s)
  unfolding upgraded_of
  image_back long = go p.flags refl (subst (λ (c : Bool). FlagsHeld c p.flags) pair.is_old has.flags)
    where
      p : Point
      p = point_of old s

      e : List ℕ
      e = field_of old ExtraBytes s

      has : Held old p e
      has = read_is_held old s all long

      go : (f : flags.Flags) → p.flags ≡ f → FlagsHeld false f → (fit_of (point_of new (up_image old new s ++ rest)) ≡ fit_of p) × ((class_of p.flags ≡ 28 → ⊥) → down_image new old (up_image old new s ++ rest) ≡ take (record_bytes old) s)
      go (ThreeByte a b c) is h = absurd h
      go (TwoByte a b) is h =
          let u = upgraded_old p a b in
          let is_up : up_image old new s ≡ record_of new u e = rw is in
          let held = up-held new old pair p e has a b is in
          rw (is_up, missing_then_zero new u e held rest, extra-beside_missing new u e held rest)
          (shown-judged new u ∙ old-judged a b p is (record_none old pair.is_old pair.no_nir s), λ not_28. up_down new old pair p e has a b is (λ q. not_28 (ap class_of is ∙ q)) ∙ read_then_written old s all long)
