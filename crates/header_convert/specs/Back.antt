-- A header that went up goes down again, and is what it was.
use Rattle.std.specs.List.{list_all}
use Rattle.std.specs.Prelude.{ℕ, suc, ◌+◌, ◌-◌, ◌^◌, ◌<◌, ◌≡◌, true, ◌⊎◌, List, [], ◌∷◌, length, get_or, drop, replicate}
use Rattle.std.proofs.Math.Path.{refl, sym, ap}
use Rattle.std.proofs.Common.{◌∙◌, inl, inr, drop_at}
use Rattle.std.proofs.Math.Bool.{false}
use native.Mathlib.Omega.{arith}
use borrow.Author.Tests.{lt-ltb, ne_eqb}
use Rattle.std.proofs.Math.Seq.{take_at}
use Rattle.fields.specs.Table.{All, ◌&◌}
use Rattle.header.specs.declared.Header.{Header}
use Rattle.header.specs.Kinds.{Fits}
use Rattle.header.specs.Layout.{Field, kind, fields14}
use Rattle.header.specs.Header.{points_of}
use Rattle.header_write.specs.Bytes.{value_of}
use Rattle.header_write.specs.Readable.{Readable}
use Rattle.header_convert.specs.Turned.{beside, new_code, old_code, large_of, old_by_return, fits32, is_zero, changed_of, new_places, old_places, new_header, old_header}
use Rattle.header_convert.specs.Is.{version_is, format_is, is-of}
use Rattle.header_convert.specs.Steps.{OldFits}
use Rattle.header_convert.specs.Goes.{GoesUp, GoesDown, hold_counts}
use Rattle.header_convert.specs.Told.{new_version, new-placed}

-- the codes
code_back : (f : ℕ) → (f ≡ 1) ⊎ (f ≡ 3) → old_code (new_code f) ≡ f
unfolding new_code old_code
code_back f (inl e) = rw e
code_back f (inr e) = rw e

new-kind : (f : ℕ) → (f ≡ 1) ⊎ (f ≡ 3) → (new_code f ≡ 6) ⊎ (new_code f ≡ 7)
unfolding new_code
new-kind f (inl e) = inl (rw e)
new-kind f (inr e) = inr (rw e)

every_below : (xs : List ℕ) → ((j : ℕ) → get_or xs j 0 < 256 ^ 4) → list_all fits32 xs ≡ true
every_below [] h = refl
every_below (x ∷ xs) h = rw (lt-ltb x (2 ^ 32) (omega (arith, h 0))) (every_below xs (λ j. h (suc j)))

module _ (h : Header) (padding : List ℕ) (r : Readable h padding) (g : GoesUp h) where
  two : h.version.minor ≡ 2
  two = version_is 2 1 3 h g.is

  -- its counts fit their fields
  record Counts : Type 0 where
    count : h.number_of_point_records < 256 ^ 4
    five : length h.number_of_points_by_return ≡ 5
    below : (j : ℕ) → get_or h.number_of_points_by_return j 0 < 256 ^ 4

  counts : Counts
  counts = go r.fits
    where
      go : All (λ (f : Field). Fits (kind f) (value_of h f)) fields14 → Counts
      go (signature & src & enc & guid & major & minor & system & software & day & year & size & offset & vlrs & format & each & count & by-return & others) = record { count = count; five = by-return.0; below = by-return.1 }

  by_return_back : old_by_return (new_header h) ≡ h.number_of_points_by_return
  unfolding old_by_return new_header new_places changed_of
  by_return_back = take_at h.number_of_points_by_return (replicate 10 0) 5 counts.five

  count_back : points_of (new_header h) ≡ h.number_of_point_records
  count_back = (new-placed h).count

  alone_new : beside (new_header h) ≡ false
  unfolding beside new_header new_places changed_of
  alone_new = refl

  kind-new : ((new_header h).point_data_record_format ≡ 6) ⊎ ((new_header h).point_data_record_format ≡ 7)
  unfolding new_header new_places changed_of
  kind-new = new-kind h.point_data_record_format (format_is 2 1 3 h g.is)

  more_new : list_all is_zero (drop 5 (large_of (new_header h))) ≡ true
  unfolding new_header new_places changed_of
  more_new = ap (list_all is_zero) (drop_at h.number_of_points_by_return (replicate 10 0) 5 counts.five)

  fits-new : OldFits (new_header h)
  unfolding new_header new_places changed_of
  fits-new =
      record {
        size = omega arith;
        offset = omega arith;
        each = omega arith;
        count = rw count_back (omega (arith, counts.count));
        by-return = rw by_return_back (every_below h.number_of_points_by_return counts.below);
      }

  pub goes_back : GoesDown (new_header h)
  goes_back =
      record {
        is = is-of 4 6 7 (new_header h) (new_version h).0 (new_version h).1 kind-new;
        alone = alone_new;
        counts = hold_counts (new_header h) fits-new.count fits-new.by-return more_new;
        fits = fits-new;
      }

  pub header_back_lem : old_header (new_header h) ≡ h
  unfolding old_header old_places new_header new_places changed_of
  header_back_lem =
      let size : h.header_size + 148 - 148 ≡ h.header_size = omega arith in
      let offset : h.offset_to_point_data + 148 - 148 ≡ h.offset_to_point_data = omega arith in
      let each : h.point_data_record_length + 2 - 2 ≡ h.point_data_record_length = omega arith in
      let no-large : false ≡ h.has_large_file = sym (r.large-there ∙ ne_eqb h.version.minor 4 (λ four. omega (arith, two))) in
      λ i. record {
        file_source_id = h.file_source_id;
        global_encoding = h.global_encoding;
        guid = h.guid;
        version = record { major = sym r.major i; minor = sym two i };
        system_identifier = h.system_identifier;
        generating_software = h.generating_software;
        file_creation_day_of_year = h.file_creation_day_of_year;
        file_creation_year = h.file_creation_year;
        header_size = size i;
        offset_to_point_data = offset i;
        number_of_variable_length_records = h.number_of_variable_length_records;
        point_data_record_format = code_back h.point_data_record_format (format_is 2 1 3 h g.is) i;
        point_data_record_length = each i;
        number_of_point_records = count_back i;
        number_of_points_by_return = by_return_back i;
        x_scale_factor = h.x_scale_factor;
        y_scale_factor = h.y_scale_factor;
        z_scale_factor = h.z_scale_factor;
        x_offset = h.x_offset;
        y_offset = h.y_offset;
        z_offset = h.z_offset;
        max_x = h.max_x;
        min_x = h.min_x;
        max_y = h.max_y;
        min_y = h.min_y;
        max_z = h.max_z;
        min_z = h.min_z;
        nans = h.nans;
        start_of_waveform_data_packet_record = sym (r.start_lacks (omega (arith, two))) i;
        evlr = sym (r.evlr_lacks (omega (arith, two))) i;
        has_large_file = no-large i;
        large_file = sym (r.large_lacks (omega (arith, two))) i;
      }
