-- What the check of a record and the upgrade add up to. Demand 3, for one record.
use Rattle.std.specs.Prelude.{None, Result, Ok, Err, ℕ, ◌≤◌, ◌≡◌, refl, List, ◌∷◌, ◌++◌, ◌↔◌, ℤ, pos, neg_ℤ, length, take, replicate}
use Rattle.std.proofs.Common.{ap, sym, ◌∙◌, arith, of_z}
use Rattle.std.specs.Int.{w16}
use Rattle.refusal.specs.declared.Refusal.{Refusal}
use Rattle.refusal.specs.declared.Refusal.TheVariants.{Angle}
use Rattle.refusal.specs.Table.{number_of, value_of}
use Rattle.le.specs.Le as le
use Rattle.le.specs.Made.{one_made, both_made, zeros_made}
use Rattle.format.specs.declared.Format.{Format}
use Rattle.format.specs.declared.Field.TheVariants.{ExtraBytes}
use Rattle.format.specs.Fields.{record_bytes}
use Rattle.flags.specs.declared.Flags.{Flags}
use Rattle.flags.specs.declared.Flags.TheVariants.{TwoByte, ThreeByte}
use Rattle.flags.specs.Readings.{class_of}
use Rattle.flags.specs.Bytes.{old_bytes_of, two_bytes_of, three_bytes_of}
use Rattle.angle.specs.declared.ScanAngle.{ScanAngle}
use Rattle.angle.specs.declared.ScanAngle.TheVariants.{Rank, Scaled}
use Rattle.angle.specs.Angle.{nearest, nearest_rank, held, rank_of, scaled_of, to_rank, to_scaled}
use Rattle.angle.specs.Sign.{scaled-size}
use Rattle.point.specs.declared.Point.{Point}
use Rattle.point.specs.Read.{field_of, point_of}
use Rattle.strict.specs.Fit.{overlap_goes, readings_fit, flags_fit_of, rank_fits, angle_fit_of, fit_of}
use Rattle.strict.specs.Upgrade.{upgraded_flags, upgraded_of}
use Rattle.pairs.specs.Paired.{Paired}
use Rattle.strict.specs.Shown.{nir_number, Same, Within90, Never, Unshown, down_image, up_image}
use Rattle.strict.specs.Whole.{same-within}
use Rattle.strict.specs.First.{FirstField, first_named}
use Rattle.strict.specs.Named.{refusal_named, unshown_never}
use Rattle.strict.specs.Back.{upgraded-judged, record_fits, ranked-refused, ranked_shows}
use Rattle.strict.specs.Record.{image_same, image_bytes, image_back}

module _ (new old : Format) (pair : Paired new old) (s : List ℕ) (all : le.Bytes s) (rest : List ℕ) where
  -- "records made strictly into [their] paired old format [show] an old reader, in every record, the same value in every field,
  -- scan angle to the nearest whole degree with halves away from zero", whatever stands after the record; and the same extra bytes.
  pub shown_the_same : record_bytes new ≤ length s → fit_of (point_of new s) ≡ Ok tt → Same (point_of new s) (point_of old (down_image new old s ++ rest)) × (field_of old ExtraBytes (down_image new old s ++ rest) ≡ field_of new ExtraBytes s)
  shown_the_same = image_same new old pair s all rest

  -- The record that shows it is one of bytes, of the old format's length.
  pub shown_in_bytes : record_bytes new ≤ length s → fit_of (point_of new s) ≡ Ok tt → le.Bytes (down_image new old s) × (length (down_image new old s) ≡ record_bytes old)
  shown_in_bytes = image_bytes new old pair s all rest

  -- Document 02, No. 2: "the standard's rank runs from −90 to 90". So does the rank that the record shows.
  pub shown-within_90 : record_bytes new ≤ length s → fit_of (point_of new s) ≡ Ok tt → Within90 (point_of old (down_image new old s ++ rest))
  shown-within_90 long fits = same-within (shown_the_same long fits).0 fits

  -- Brought up, an old record fits exactly when its class isn't 28 and its rank is within ±90.
  pub down_again_exactly : record_bytes old ≤ length s → (fit_of (point_of new (up_image old new s ++ rest)) ≡ Ok tt) ↔ ((class_of (point_of old s).flags ≡ 28 → ⊥) × Within90 (point_of old s))
  down_again_exactly long =
      let alike = (image_back new old pair s all rest long).0 in
      let own = record_fits old pair.is_old pair.no_nir s in
      (λ fits. own.0 (sym alike ∙ fits), λ may. alike ∙ own.1 may)

  -- "An old record with a pair, whose class isn't 28 .., brought up and strictly down again, has its own bytes." Document 02, No. 2: this "now
  -- needs the old rank within ±90". Class and rank are both needed, by `down_again_exactly`.
  pub up-and_down : record_bytes old ≤ length s → (class_of (point_of old s).flags ≡ 28 → ⊥) → Within90 (point_of old s) → (fit_of (point_of new (up_image old new s ++ rest)) ≡ Ok tt) × (down_image new old (up_image old new s ++ rest) ≡ take (record_bytes old) s)
  up-and_down long not_28 within = ((down_again_exactly long).1 (not_28, within), (image_back new old pair s all rest long).1 not_28)

-- Document 02, No. 2: a point that holds a rank is judged by the same limits as one that holds a scaled angle. So an old point, which has no
-- near infrared, is answered as the one that it is brought up to, with the same refusal and value if it is refused.
pub judged_as_upgraded : (p : Point) → nir_number p.nir ≡ 0 → fit_of (upgraded_of p) ≡ fit_of p
judged_as_upgraded = upgraded-judged

-- "Otherwise the .. first field that doesn't fit [is] named": it does not fit, and all before it in document 01's order do.
pub first-field_named : (p : Point) (why : Refusal) → fit_of p ≡ Err why → FirstField p why
first-field_named = first_named

-- "It is refused only then": what is named no old record of the pair has, of an angle none whose rank is the standard's, so that none of
-- the standard shows the same values.
module _ (new old : Format) (pair : Paired new old) where
  module _ (p : Point) where
    pub refused-only_then : (why : Refusal) → fit_of p ≡ Err why → Unshown old p why
    refused-only_then = refusal_named old pair.is_old pair.no_nir p

    pub no-old_record_shows_it : (why : Refusal) → fit_of p ≡ Err why → Never old (λ q. Within90 q × Same p q)
    no-old_record_shows_it why refused = unshown_never (refused-only_then why refused)

    -- The other way round, a point that any old record of the standard shows fits.
    pub fits-if-shown : (t : List ℕ) → le.Bytes t → Within90 (point_of old t) → Same p (point_of old t) → fit_of p ≡ Ok tt
    fits-if-shown t bytes within same = go (fit_of p) refl
      where
        go : (x : Result Unit Refusal) → fit_of p ≡ x → fit_of p ≡ Ok tt
        go (Ok _) e = e
        go (Err why) e = absurd (no-old_record_shows_it why e t bytes (within, same))

  -- Of every old record this would be false: one of zeros and rank 104, whatever follows, shows a point that is refused.
  pub rank_104_shows_a_refused_point : (rest : List ℕ) → le.Bytes rest → le.Bytes (replicate 16 0 ++ (104 ∷ rest)) × (p : Point) × Same p (point_of old (replicate 16 0 ++ (104 ∷ rest))) × (fit_of p ≡ Err (Angle 17333))
  rank_104_shows_a_refused_point rest bytes = (
    both_made (replicate 16 0) (104 ∷ rest) (zeros_made 16) (one_made 104 rest (omega arith) bytes),
    _,
    ranked_shows old pair.is_old pair.no_nir rest,
    ranked-refused old pair.is_old pair.no_nir rest,
  )

-- points that are zero but for their flags and their angle, new ones but for one of them; and number and value of what the record check
-- refuses, zeros where it fits
abbrev pub marked : Flags → ScanAngle → Point
marked f a =
    record {
      x = pos 0;
      y = pos 0;
      z = pos 0;
      intensity = 0;
      flags = f;
      scan_angle = a;
      user_data = 0;
      point_source_id = 0;
      gps_time = None;
      color = None;
      waveform = None;
      nir = None;
    }

abbrev pub flagged : ℕ → ℕ → ℕ → Point
flagged a b c = marked (ThreeByte a b c) (Scaled (pos 0))

abbrev pub angled : ℤ → Point
angled n = marked (ThreeByte 0x11 0 2) (Scaled n)

abbrev pub refusal_of : Result Unit Refusal → ℕ × ℕ
refusal_of (Ok _) = (0, 0)
refusal_of (Err why) = (number_of why, value_of why)

-- Document 01's numbers, "P: proved together, one list, one statement about the definitions", with document 02's on ranks.
pub worked :
    -- "P scaled 249 to 1, 250 to 2, −250 to −2. P 21,249 to 127. P 21,250 to 127 plainly, 21 strictly. P −21,416 to −128;
    -- −21,417 strictly 21"; document 02, No. 2: "scaled 15,083 passes as 90 and 15,084 doesn't, and likewise below zero", and "01's strict cases at
    -- 21,249 and −21,416 become refusals"
    (to_rank (Scaled (pos 249)) ≡ pos 1)
    × (to_rank (Scaled (pos 250)) ≡ pos 2)
    × (to_rank (Scaled (neg_ℤ (pos 250))) ≡ neg_ℤ (pos 2))
    × (to_rank (Scaled (pos 15083)) ≡ pos 90) × (fit_of (angled (pos 15083)) ≡ Ok tt)
    × (to_rank (Scaled (pos 15084)) ≡ pos 91) × (refusal_of (fit_of (angled (pos 15084))) ≡ (21, 15084))
    × (to_rank (Scaled (neg_ℤ (pos 15083))) ≡ neg_ℤ (pos 90)) × (fit_of (angled (neg_ℤ (pos 15083))) ≡ Ok tt)
    × (to_rank (Scaled (neg_ℤ (pos 15084))) ≡ neg_ℤ (pos 91)) × (refusal_of (fit_of (angled (neg_ℤ (pos 15084)))) ≡ (21, 50452))
    × (to_rank (Scaled (pos 21249)) ≡ pos 127) × (refusal_of (fit_of (angled (pos 21249))) ≡ (21, 21249))
    × (to_rank (Scaled (pos 21250)) ≡ pos 127) × (refusal_of (fit_of (angled (pos 21250))) ≡ (21, 21250))
    × (to_rank (Scaled (neg_ℤ (pos 21416))) ≡ neg_ℤ (pos 128)) × (refusal_of (fit_of (angled (neg_ℤ (pos 21416)))) ≡ (21, 44120))
    × (refusal_of (fit_of (angled (neg_ℤ (pos 21417)))) ≡ (21, 44119))
    -- "P rank 1 to 166, 3 to 500, −128 to −21,333"
    × (to_scaled (Rank (pos 1)) ≡ pos 166)
    × (to_scaled (Rank (pos 3)) ≡ pos 500)
    × (to_scaled (Rank (neg_ℤ (pos 128))) ≡ neg_ℤ (pos 21333))
    -- "P extended (0x11,0,2) to (0x09,0x02). P (0x21,0x48,2) plainly (0x51,0x0C), strictly 19. P (0x11,0x08,12) strictly
    -- (0x09,0x0C). P (0x11,0,28) plainly (0x09,0x1C), strictly 19"
    × (two_bytes_of (ThreeByte 0x11 0 2) ≡ Ok (0x09, 0x02)) × (fit_of (flagged 0x11 0 2) ≡ Ok tt)
    × (two_bytes_of (ThreeByte 0x21 0x48 2) ≡ Ok (0x51, 0x0C)) × (refusal_of (fit_of (flagged 0x21 0x48 2)) ≡ (19, 2))
    × (two_bytes_of (ThreeByte 0x11 0x08 12) ≡ Ok (0x09, 0x0C)) × (fit_of (flagged 0x11 0x08 12) ≡ Ok tt)
    × (two_bytes_of (ThreeByte 0x11 0 28) ≡ Ok (0x09, 0x1C)) × (refusal_of (fit_of (flagged 0x11 0 28)) ≡ (19, 28))
    -- "P old (0x51,0x22): the Rust's three bytes (0x21,0,0x22), upgrade (0x21,0x41,0x02)"
    × (three_bytes_of (TwoByte 0x51 0x22) ≡ record { a = 0x21; b = 0; c = 0x22 })
    × (upgraded_flags (TwoByte 0x51 0x22) ≡ ThreeByte 0x21 0x41 0x02)
unfolding rank_of nearest_rank nearest held scaled_of angle_fit_of rank_fits two_bytes_of old_bytes_of three_bytes_of flags_fit_of readings_fit overlap_goes upgraded_flags fit_of
worked =
    (refl, refl, refl, refl, refl, refl, refl, refl, refl, refl, refl, refl, refl, refl, refl, refl, refl, refl, refl, refl, refl, refl, refl, refl, refl, refl, refl, refl, refl, refl, refl)

-- What up-and_down needs, by example: old points of ground and of class 28, by their ranks, brought up and judged on their way down.
pub worked-again :
    (fit_of (upgraded_of (marked (TwoByte 0x09 0x02) (Rank (pos 90)))) ≡ Ok tt)
    × (fit_of (upgraded_of (marked (TwoByte 0x09 0x02) (Rank (neg_ℤ (pos 90))))) ≡ Ok tt)
    × (refusal_of (fit_of (upgraded_of (marked (TwoByte 0x09 0x02) (Rank (pos 91))))) ≡ (21, 15166))
    × (refusal_of (fit_of (upgraded_of (marked (TwoByte 0x09 0x02) (Rank (neg_ℤ (pos 91)))))) ≡ (21, 50370))
    × (refusal_of (fit_of (upgraded_of (marked (TwoByte 0x09 0x1C) (Rank (pos 0))))) ≡ (19, 28))
unfolding angle_fit_of rank_fits flags_fit_of readings_fit overlap_goes fit_of
worked-again = (
  judged_as_upgraded _ refl,
  judged_as_upgraded _ refl,
  ap refusal_of (judged_as_upgraded _ refl) ∙ ap told (scaled-size (pos 91)),
  ap refusal_of (judged_as_upgraded _ refl) ∙ ap told (scaled-size (neg_ℤ (pos 91))),
  ap refusal_of (judged_as_upgraded _ refl),
)
  where
    told : ℤ → ℕ × ℕ
    told n = (21, of_z w16 n)
