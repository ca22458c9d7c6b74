-- The header of a file that goes to the other version: document 02, No. 3. All sums are exact.
use Rattle.std.specs.List.{list_all}
use Rattle.std.specs.Option.{is_some}
use Rattle.std.specs.Prelude.{None, Result, Ok, Err, ℕ, ◌+◌, ◌-◌, ◌^◌, Bool, true, false, cond, ◌&&◌, ◌||◌, List, ◌++◌, eqb, ltb, leb, take, drop, replicate}
use Rattle.refusal.specs.declared.Refusal.{Refusal}
use Rattle.refusal.specs.declared.Refusal.TheVariants.{HeaderSize, RecordLength, PointOffset, OtherVersionOrFormat, EvlrsOrWaveforms, CountsTooLargeForOld}
use Rattle.header.specs.declared.Header.{Header}
use Rattle.header.specs.declared.LargeFile.{LargeFile}
use Rattle.header.specs.Header.{no_large, large_back, points_of}
use Rattle.header_convert.specs.declared.Places.{Places}

-- version 1.minor with one of two formats
unfoldable pub is_of : ℕ → ℕ → ℕ → Header → Bool
is_of minor one other h =
    eqb h.version.major 1 && (eqb h.version.minor minor && (eqb h.point_data_record_format one || eqb h.point_data_record_format other))

-- "EVLRs or a waveform start present", as they are read: half a pair is none
unfoldable pub beside : Header → Bool
beside h = is_some h.start_of_waveform_data_packet_record || is_some h.evlr

-- "format 1 or 3 into 1.4 with format 6 or 7", and back
unfoldable pub new_code : ℕ → ℕ
new_code f = cond (eqb f 1) 6 7

unfoldable pub old_code : ℕ → ℕ
old_code f = cond (eqb f 6) 1 3

-- the 15 large counts by return
abbrev pub large_of : Header → List ℕ
large_of h = (large_back h).number_of_points_by_return

-- "Going down, the counts by return are the legacy ones if the legacy count isn't zero, else the large ones"
unfoldable pub old_by_return : Header → List ℕ
old_by_return h = cond (eqb h.number_of_point_records 0) (take 5 (large_of h)) h.number_of_points_by_return

-- a count has a place in a legacy field, or there is none
abbrev pub fits32 : ℕ → Bool
fits32 n = ltb n (2 ^ 32)

abbrev pub is_zero : ℕ → Bool
is_zero n = eqb n 0

-- "going down, effective count or one of the five counts by return over 2^32−1, or any large count of returns 6 to 15 not zero": none is
unfoldable pub counts_fit : Header → Bool
counts_fit h = fits32 (points_of h) && (list_all fits32 (old_by_return h) && list_all is_zero (drop 5 (large_of h)))

-- a header with another version, other places and counts; "EVLRs or a waveform start" there are none, and all else is kept
unfoldable pub changed_of : Places → ℕ → List ℕ → Bool → LargeFile → Header → Header
changed_of p points by-return has-large large h =
    record {
      file_source_id = h.file_source_id;
      global_encoding = h.global_encoding;
      guid = h.guid;
      version = record { major = 1; minor = p.minor };
      system_identifier = h.system_identifier;
      generating_software = h.generating_software;
      file_creation_day_of_year = h.file_creation_day_of_year;
      file_creation_year = h.file_creation_year;
      header_size = p.header_size;
      offset_to_point_data = p.offset_to_point_data;
      number_of_variable_length_records = h.number_of_variable_length_records;
      point_data_record_format = p.format;
      point_data_record_length = p.record_length;
      number_of_point_records = points;
      number_of_points_by_return = by-return;
      x_scale_factor = h.x_scale_factor;
      y_scale_factor = h.y_scale_factor;
      z_scale_factor = h.z_scale_factor;
      x_offset = h.x_offset;
      y_offset = h.y_offset;
      z_offset = h.z_offset;
      max_x = h.max_x;
      min_x = h.min_x;
      max_y = h.max_y;
      min_y = h.min_y;
      max_z = h.max_z;
      min_z = h.min_z;
      nans = h.nans;
      start_of_waveform_data_packet_record = None;
      evlr = None;
      has_large_file = has-large;
      large_file = large;
    }

-- "The header grows .. by 148 bytes, the point offset with it", and a record by the two bytes of the longer format
unfoldable pub new_places : Header → Places
new_places h =
    record {
      minor = 4;
      header_size = h.header_size + 148;
      offset_to_point_data = h.offset_to_point_data + 148;
      format = new_code h.point_data_record_format;
      record_length = h.point_data_record_length + 2;
    }

-- ".. or shrinks by 148 bytes"
unfoldable pub old_places : Header → Places
old_places h =
    record {
      minor = 2;
      header_size = h.header_size - 148;
      offset_to_point_data = h.offset_to_point_data - 148;
      format = old_code h.point_data_record_format;
      record_length = h.point_data_record_length - 2;
    }

-- "Going up, the legacy counts become zero and the large ones hold them"
unfoldable pub new_header : Header → Header
new_header h =
    changed_of (new_places h) 0 (replicate 5 0) true
    (record { number_of_point_records = h.number_of_point_records; number_of_points_by_return = h.number_of_points_by_return ++ replicate 10 0 })
    h

-- going down, the legacy count is the effective one
unfoldable pub old_header : Header → Header
old_header h = changed_of (old_places h) (points_of h) (old_by_return h) false no_large h

-- "other version or format; EVLRs or a waveform start present; .. header size, then point offset not fitting its field", and a record length
-- that does not, as the conversion of the points would refuse it next
unfoldable pub new_goes : Header → Result Unit Refusal
new_goes h =
    cond (is_of 2 1 3 h)
    (cond (beside h) (Err EvlrsOrWaveforms)
    (cond (ltb (h.header_size + 148) (2 ^ 16))
    (cond (ltb (h.offset_to_point_data + 148) (2 ^ 32))
    (cond (ltb (h.point_data_record_length + 2) (2 ^ 16)) (Ok tt) (Err (RecordLength (h.point_data_record_length + 2))))
    (Err (PointOffset h.offset_to_point_data)))
    (Err (HeaderSize h.header_size))))
    (Err OtherVersionOrFormat)

unfoldable pub old_goes : Header → Result Unit Refusal
old_goes h =
    cond (is_of 4 6 7 h)
    (cond (beside h) (Err EvlrsOrWaveforms)
    (cond (counts_fit h)
    (cond (leb 148 h.header_size)
    (cond (leb 148 h.offset_to_point_data)
    (cond (leb 2 h.point_data_record_length) (Ok tt) (Err (RecordLength h.point_data_record_length)))
    (Err (PointOffset h.offset_to_point_data)))
    (Err (HeaderSize h.header_size)))
    (Err CountsTooLargeForOld)))
    (Err OtherVersionOrFormat)

-- a header that goes, turned; one that does not, as it is
abbrev pub turned_by : Result Unit Refusal → Header → Header → Header
turned_by (Ok _) new h = new
turned_by (Err r) new h = h

unfoldable pub new_turned : Header → Header
new_turned h = turned_by (new_goes h) (new_header h) h

unfoldable pub old_turned : Header → Header
old_turned h = turned_by (old_goes h) (old_header h) h
