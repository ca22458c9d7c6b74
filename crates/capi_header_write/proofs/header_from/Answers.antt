use mathlib.Core.Bool.{not}
use lib.Dec.{eqb}
use Rattle.capi_header_write.specs.Numbers.{header_from}
use Rattle.capi_header_write.proofs.header_from.Goals as goal

-- Long since a header has 32 fields, each from a call of its own.
pub returns : goal.returns
unfolding header_from
returns c =
    let a = c.args in
    λ i. record {
      file_source_id = c.low16.ensures i;
      global_encoding = c.low16-2.ensures i;
      guid = a.guid;
      version = record { major = c.low8.ensures i; minor = c.low8-2.ensures i };
      system_identifier = a.system;
      generating_software = a.software;
      file_creation_day_of_year = c.low16-3.ensures i;
      file_creation_year = c.low16-4.ensures i;
      header_size = c.low16-5.ensures i;
      offset_to_point_data = c.low32.ensures i;
      number_of_variable_length_records = c.low32-2.ensures i;
      point_data_record_format = c.low8-3.ensures i;
      point_data_record_length = c.low16-6.ensures i;
      number_of_point_records = c.low32-3.ensures i;
      number_of_points_by_return = c.by_return_from.ensures i;
      x_scale_factor = c.value.ensures i;
      y_scale_factor = c.value-2.ensures i;
      z_scale_factor = c.value-3.ensures i;
      x_offset = c.value-4.ensures i;
      y_offset = c.value-5.ensures i;
      z_offset = c.value-6.ensures i;
      max_x = c.value-7.ensures i;
      min_x = c.value-8.ensures i;
      max_y = c.value-9.ensures i;
      min_y = c.value-10.ensures i;
      max_z = c.value-11.ensures i;
      min_z = c.value-12.ensures i;
      nans = c.nans_from.ensures i;
      start_of_waveform_data_packet_record = c.start_from.ensures i;
      evlr = c.evlr_from.ensures i;
      has_large_file = not (eqb (c.nth.ensures i) 0);
      large_file = c.large_from.ensures i;
    }
