-- What a header is that goes: all that would refuse it is not so.
use Rattle.std.specs.List.{list_all}
use Rattle.std.specs.Prelude.{Result, Ok, Err, ℕ, ◌+◌, ◌^◌, ◌<◌, ◌≡◌, refl, Bool, true, false, cond, ltb, leb, drop}
use Rattle.std.proofs.Math.Bool.{and-eq-true_iff}
use Rattle.std.proofs.Common.{arith}
use borrow.Author.Tests.{lt-ltb, le-leb, ltb-true, leb-true}
use Rattle.refusal.specs.declared.Refusal.{Refusal}
use Rattle.refusal.specs.declared.Refusal.TheVariants.{HeaderSize, RecordLength, PointOffset, OtherVersionOrFormat, EvlrsOrWaveforms, CountsTooLargeForOld}
use Rattle.header.specs.declared.Header.{Header}
use Rattle.header.specs.Header.{points_of}
use Rattle.header_convert.specs.Turned.{is_of, beside, large_of, old_by_return, fits32, is_zero, counts_fit, new_goes, old_goes}
use Rattle.header_convert.specs.Steps.{NewFits, OldFits}

-- where a chain of tests answers yes, a test that would refuse was passed
module _ (b : Bool) (r : Refusal) (g : Result Unit Refusal) where
  passed : cond b g (Err r) ≡ Ok tt → (b ≡ true) × (g ≡ Ok tt)
  passed p = go b refl p
    where
      go : (t : Bool) → b ≡ t → cond t g (Err r) ≡ Ok tt → (b ≡ true) × (g ≡ Ok tt)
      go true q h = (q, h)
      go false q h = let z : ◌≡◌ {A = ℕ} 0 1 = cc in absurd (omega arith)

  not_so : cond b (Err r) g ≡ Ok tt → (b ≡ false) × (g ≡ Ok tt)
  not_so p = go b refl p
    where
      go : (t : Bool) → b ≡ t → cond t (Err r) g ≡ Ok tt → (b ≡ false) × (g ≡ Ok tt)
      go true q h = let z : ◌≡◌ {A = ℕ} 0 1 = cc in absurd (omega arith)
      go false q h = (q, h)

-- a header that goes up
pub record GoesUp (h : Header) : Type 0 where
  pub is : is_of 2 1 3 h ≡ true
  pub alone : beside h ≡ false
  pub fits : NewFits h

-- and down
pub record GoesDown (h : Header) : Type 0 where
  pub is : is_of 4 6 7 h ≡ true
  pub alone : beside h ≡ false
  pub counts : counts_fit h ≡ true
  pub fits : OldFits h

module _ (h : Header) where
  pub goes-up : new_goes h ≡ Ok tt → GoesUp h
  unfolding new_goes
  goes-up p =
      let is = passed (is_of 2 1 3 h) OtherVersionOrFormat _ p in
      let alone = not_so (beside h) EvlrsOrWaveforms _ is.1 in
      let size = passed (ltb (h.header_size + 148) (2 ^ 16)) (HeaderSize h.header_size) _ alone.1 in
      let offset = passed (ltb (h.offset_to_point_data + 148) (2 ^ 32)) (PointOffset h.offset_to_point_data) _ size.1 in
      let each = passed (ltb (h.point_data_record_length + 2) (2 ^ 16)) (RecordLength (h.point_data_record_length + 2)) _ offset.1 in
      record {
        is = is.0;
        alone = alone.0;
        fits = record { size = ltb-true _ _ size.0; offset = ltb-true _ _ offset.0; each = ltb-true _ _ each.0 };
      }

  pub up-goes : GoesUp h → new_goes h ≡ Ok tt
  unfolding new_goes
  up-goes g = rw (g.is, g.alone, lt-ltb _ _ g.fits.size, lt-ltb _ _ g.fits.offset, lt-ltb _ _ g.fits.each)

  -- the counts fit exactly where each does
  pub counts_hold : counts_fit h ≡ true → (points_of h < 2 ^ 32) × (list_all fits32 (old_by_return h) ≡ true) × (list_all is_zero (drop 5 (large_of h)) ≡ true)
  unfolding counts_fit
  counts_hold p =
      let count = (and-eq-true_iff (fits32 (points_of h)) _).0 p in
      let others = (and-eq-true_iff (list_all fits32 (old_by_return h)) _).0 count.1 in
      (ltb-true _ _ count.0, others.0, others.1)

  pub hold_counts : points_of h < 2 ^ 32 → list_all fits32 (old_by_return h) ≡ true → list_all is_zero (drop 5 (large_of h)) ≡ true → counts_fit h ≡ true
  unfolding counts_fit
  hold_counts count five more = rw (lt-ltb _ _ count, five, more)

  pub goes_down : old_goes h ≡ Ok tt → GoesDown h
  unfolding old_goes
  goes_down p =
      let is = passed (is_of 4 6 7 h) OtherVersionOrFormat _ p in
      let alone = not_so (beside h) EvlrsOrWaveforms _ is.1 in
      let counts = passed (counts_fit h) CountsTooLargeForOld _ alone.1 in
      let size = passed (leb 148 h.header_size) (HeaderSize h.header_size) _ counts.1 in
      let offset = passed (leb 148 h.offset_to_point_data) (PointOffset h.offset_to_point_data) _ size.1 in
      let each = passed (leb 2 h.point_data_record_length) (RecordLength h.point_data_record_length) _ offset.1 in
      let hold = counts_hold counts.0 in
      record {
        is = is.0;
        alone = alone.0;
        counts = counts.0;
        fits = record { size = leb-true _ _ size.0; offset = leb-true _ _ offset.0; each = leb-true _ _ each.0; count = hold.0; by-return = hold.1 };
      }

  pub down_goes : GoesDown h → old_goes h ≡ Ok tt
  unfolding old_goes
  down_goes g = rw (g.is, g.alone, g.counts, le-leb _ _ g.fits.size, le-leb _ _ g.fits.offset, le-leb _ _ g.fits.each)
