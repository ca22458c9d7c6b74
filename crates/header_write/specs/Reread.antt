-- A header that is written and read again.
use Rattle.std.specs.Prelude.{Ok}
use Rattle.header.specs.Whole.{whole_of}
use Rattle.std.specs.Prelude.{ℕ, ◌+◌, ◌≤◌, ◌<◌, ◌≡◌, refl, leb, take}
use Rattle.std.proofs.Math.Path.{sym, ap}
use Rattle.std.proofs.Common.{◌∙◌, arith, length-append, take_at, drop_at}
use mathlib.Core.List.{List, [], ◌∷◌, ◌++◌, append_assoc, append-nil}
use Rattle.std.proofs.Math.Nat.{add-sub_cancel_left}
use borrow.Author.Tests.{eq-eqb, le-leb}
use Rattle.std.proofs.Math.Dec.{eqb}
use Rattle.std.proofs.Math.ListN.{length, drop}
use Rattle.le.specs.Le.{num}
use Rattle.le.specs.Laws.{num_past, num-take}
use Rattle.lent.specs.Laws.{passed, answered}
use Rattle.fields.specs.Table.{All, none, ◌&◌}
use Rattle.fields.specs.Laws.{Wide, mapped, zipped, split, length-joined, parts-joined}
use Rattle.header.specs.declared.Header.{Header}
use Rattle.header.specs.Layout.{Field, FileSignature, VersionMajor, VersionMinor, HeaderSize, StartOfWaveformDataPacketRecord, StartOfFirstEvlr, NumberOfEvlrs, place, kind, width, fields12, fields13, fields14, fields_of, size, large}
use Rattle.header.specs.Header.{part, number, value, start_of, evlr_of, nans_of, large_read, header_of, lasf}
use Rattle.header.specs.Judged.{padded_to, judged, read_of, padding_of}
use Rattle.header.specs.Window.{part-take}
use Rattle.header.specs.Laws.{by_version, whole, size-least}
use Rattle.header.specs.Answers.{read_whole, padding-whole, standard_is, padded_most}
use Rattle.header.specs.Values.{value-wide, value_again, nums_past}
use Rattle.header_write.specs.Bytes.{value_of, field_bytes, block}
use Rattle.header_write.specs.Table.{each, follows}
use Rattle.header_write.specs.Wrote.{wrote_by, wrote_of}
use Rattle.header_write.specs.Readable.{Readable}

module _ (h : Header) (padding : List ℕ) (r : Readable h padding) where
  -- a field is read again from where it stands
  abbrev Again : Field → Type 0
  Again f = value f (block h) ≡ value_of h f

  wide : Wide width (field_bytes h) (fields_of h.version.minor)
  wide = each h.version.minor (mapped (λ f fit. value-wide (kind f) (value_of h f) fit) fields14 r.fits)

  pub length_is : length (block h) ≡ size (fields_of h.version.minor)
  unfolding block
  length_is = length-joined width (field_bytes h) (fields_of h.version.minor) wide

  again : All Again (fields_of h.version.minor)
  unfolding block
  again =
      let fs = fields_of h.version.minor in
      zipped (λ f fit stands. value_again (kind f) (value_of h f) (place f) (block h) fit stands) fs (each h.version.minor r.fits)
      (parts-joined width (field_bytes h) place (block h) fs 0 [] (follows h.version.minor) wide (sym (append-nil (block h))))

  -- the fields of every version, with what is read of the others
  same : All Again fields12 → start_of (value StartOfWaveformDataPacketRecord (block h)) ≡ h.start_of_waveform_data_packet_record → evlr_of (value StartOfFirstEvlr (block h)) (value NumberOfEvlrs (block h)) ≡ h.evlr → large_read (block h) ≡ h.large_file → (header_of (block h) ≡ h) × (part FileSignature (block h) ≡ lasf)
  unfolding header_of nans_of
  same (signature & src & enc & guid & major & minor & system & software & day & year & size-field & offset & vlrs & format & length-field & count & by-return & x-scale-factor & y-scale-factor & z-scale-factor & x_offset & y_offset & z_offset & max_x & min_x & max_y & min_y & max_z & min_z & none) wave pair counts = (
    λ i. record {
      file_source_id = src i;
      global_encoding = enc i;
      guid = guid i;
      version = record { major = major i; minor = minor i };
      system_identifier = system i;
      generating_software = software i;
      file_creation_day_of_year = day i;
      file_creation_year = year i;
      header_size = size-field i;
      offset_to_point_data = offset i;
      number_of_variable_length_records = vlrs i;
      point_data_record_format = format i;
      point_data_record_length = length-field i;
      number_of_point_records = count i;
      number_of_points_by_return = by-return i;
      x_scale_factor = (x-scale-factor i).value;
      y_scale_factor = (y-scale-factor i).value;
      z_scale_factor = (z-scale-factor i).value;
      x_offset = (x_offset i).value;
      y_offset = (y_offset i).value;
      z_offset = (z_offset i).value;
      max_x = (max_x i).value;
      min_x = (min_x i).value;
      max_y = (max_y i).value;
      min_y = (min_y i).value;
      max_z = (max_z i).value;
      min_z = (min_z i).value;
      nans = record {
        x_scale_factor = (x-scale-factor i).nan;
        y_scale_factor = (y-scale-factor i).nan;
        z_scale_factor = (z-scale-factor i).nan;
        x_offset = (x_offset i).nan;
        y_offset = (y_offset i).nan;
        z_offset = (z_offset i).nan;
        max_x = (max_x i).nan;
        min_x = (min_x i).nan;
        max_y = (max_y i).nan;
        min_y = (min_y i).nan;
        max_z = (max_z i).nan;
        min_z = (min_z i).nan;
      };
      start_of_waveform_data_packet_record = wave i;
      evlr = pair i;
      has_large_file = (ap (λ (m : ℕ). eqb m 4) minor ∙ sym r.large-there) i;
      large_file = counts i;
    },
    signature,
  )

  -- what the version lacks lies past its block and reads as missing
  module _ (old : h.version.minor < 4) (short : length (block h) ≤ 235) where
    no_pair : evlr_of (value StartOfFirstEvlr (block h)) (value NumberOfEvlrs (block h)) ≡ h.evlr
    unfolding evlr_of
    no_pair = rw (num_past 8 (block h) 235 short) (sym (r.evlr_lacks old))

    no-large : large_read (block h) ≡ h.large_file
    no-large = (λ i. record { number_of_point_records = num_past 8 (block h) 247 (omega arith) i; number_of_points_by_return = nums_past 8 15 255 (block h) (omega arith) i }) ∙ sym (r.large_lacks old)

  -- what each version has
  abbrev Kept : Type 0
  Kept = (header_of (block h) ≡ h) × (part FileSignature (block h) ≡ lasf)

  wave_again : All Again (StartOfWaveformDataPacketRecord ∷ []) → start_of (value StartOfWaveformDataPacketRecord (block h)) ≡ h.start_of_waveform_data_packet_record
  wave_again (start & none) = ap start_of start ∙ r.start_normal

  new_again : h.version.minor ≡ 4 → All Again fields13 → All Again large → Kept
  new_again four old (start & count & points & by-return & none) =
      let parts = split fields12 (StartOfWaveformDataPacketRecord ∷ []) old in
      same parts.0 (wave_again parts.1) ((λ i. evlr_of (start i) (count i)) ∙ r.evlr_normal)
      ((λ i. record { number_of_point_records = points i; number_of_points_by_return = by-return i }) ∙ rw (r.large-there, eq-eqb _ _ four))

  pub header_again : Kept
  unfolding start_of
  header_again =
      by_version (λ fs. All Again fs → length (block h) ≡ size fs → Kept) h.version.minor
      (λ m all l. same all (rw (num_past 8 (block h) 227 (omega arith)) (sym (r.start_lacks m))) (no_pair (omega arith) (omega arith)) (no-large (omega arith) (omega arith)))
      (λ m all l. let parts = split fields12 (StartOfWaveformDataPacketRecord ∷ []) all in same parts.0 (wave_again parts.1) (no_pair (omega arith) (omega arith)) (no-large (omega arith) (omega arith)))
      (λ m all l. let parts = split fields13 large all in new_again (omega (arith, r.minor)) parts.0 parts.1)
      again length_is

  -- what is written, whatever lies past it
  module _ (rest : List ℕ) where
    abbrev end : ℕ
    end = size (fields_of h.version.minor)

    abbrev written : List ℕ
    written = (block h ++ padding) ++ rest

    block-first : take end written ≡ block h
    block-first = ap (take end) (append_assoc (block h) padding rest) ∙ take_at (block h) (padding ++ rest) end length_is

    long : end + length padding ≤ length written
    long = omega (arith, length-append (block h ++ padding) rest, length-append (block h) padding, length_is)

    number-first : (f : Field) → place f + width f ≤ 227 → number f written ≡ number f (block h)
    number-first f in_block =
        sym (num-take (width f) (place f) written end (omega (arith, size-least h.version.minor)))
        ∙ ap (num (width f) (place f)) block-first

    minor_first : number VersionMinor written ≡ h.version.minor
    unfolding header_of
    minor_first = number-first VersionMinor (omega arith) ∙ ap (λ (x : Header). x.version.minor) header_again.0

    field-first : number HeaderSize written ≡ h.header_size
    unfolding header_of
    field-first = number-first HeaderSize (omega arith) ∙ ap (λ (x : Header). x.header_size) header_again.0

    pub judged_again : judged written ≡ Ok (whole_of end (end + length padding))
    unfolding header_of
    judged_again =
        whole written
        (record {
          signature = sym (part-take end written 4 0 (omega (arith, size-least h.version.minor))) ∙ ap (part FileSignature) block-first ∙ header_again.1;
          major = number-first VersionMajor (omega arith) ∙ ap (λ (x : Header). x.version.major) header_again.0 ∙ r.major;
          minor = rw minor_first r.minor;
          block = ap (λ (k : ℕ). size (fields_of k)) (sym minor_first);
          holds-block = omega (arith, long);
          holds-field = rw field-first (omega (arith, long, r.end, padded_most end h.header_size));
          end = sym (ap (padded_to end) field-first ∙ r.end);
        })

    pub read_again : read_of written ≡ Ok h
    read_again = read_whole written judged_again ∙ ap Ok (ap header_of block-first ∙ header_again.0)

    pub padding_again : padding_of written ≡ padding
    padding_again =
        padding-whole written judged_again
        ∙ rw (add-sub_cancel_left, append_assoc (block h) padding rest, drop_at (block h) (padding ++ rest) end length_is)
        (take_at padding rest (length padding) refl)

  -- where there is room, the writer answers the count and leaves the rest
  pub with_room : (d : List ℕ) → size (fields_of h.version.minor) + length padding ≤ length d → let n = size (fields_of h.version.minor) + length padding in wrote_of h padding d ≡ (Ok n, (block h ++ padding) ++ drop n d)
  unfolding wrote_of wrote_by
  with_room d room = rw (standard_is h.version r.major r.minor, le-leb _ _ room)

  -- what a write leaves that is answered with a count
  wrote : (d d' : List ℕ) {m : ℕ} → wrote_of h padding d ≡ (Ok m, d') → (m ≡ size (fields_of h.version.minor) + length padding) × (d' ≡ (block h ++ padding) ++ drop m d)
  unfolding wrote_of wrote_by
  wrote d d' p =
      let room = passed (leb (size (fields_of h.version.minor) + length padding) (length d)) _ _ _ (rw (standard_is h.version r.major r.minor) at p) in
      let left = answered room.1 in
      (left.0, left.1 ∙ ap (λ (k : ℕ). (block h ++ padding) ++ drop k d) (sym left.0))

  pub written_again : (d d' : List ℕ) {m : ℕ} → wrote_of h padding d ≡ (Ok m, d') → (judged d' ≡ Ok (whole_of (size (fields_of h.version.minor)) m)) × (read_of d' ≡ Ok h) × (padding_of d' ≡ padding)
  written_again d d' {m} p =
      let w = wrote d d' p in (
        ap judged w.1 ∙ judged_again (drop m d) ∙ ap (λ (k : ℕ). Ok (whole_of (size (fields_of h.version.minor)) k)) (sym w.0),
        ap read_of w.1 ∙ read_again (drop m d),
        ap padding_of w.1 ∙ padding_again (drop m d),
      )
