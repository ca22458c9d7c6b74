use mathlib.Core.Path.{ap, ◌∙◌}
use native.Mathlib.Omega.{arith}
use lib.Dec.{eqb}
use Rattle.store.specs.Window.{window_is}
use Rattle.header.specs.Header.{header_of, start_of, evlr_of}
use Rattle.header.proofs.read_block.Goals as goal

-- Long since a header has 32 fields, each from a call of its own.
pub returns : goal.returns
unfolding header_of
returns c =
    let b = c.args.b.now in
    λ i. record {
      file_source_id = c.u16_at.ensures i;
      global_encoding = c.u16_at-2.ensures i;
      guid = (c.bytes_at.ensures ∙ window_is 16 8 b (omega arith)) i;
      version = record { major = c.u8_at.ensures i; minor = c.u8_at-minor.ensures i };
      system_identifier = (c.bytes_at-2.ensures ∙ window_is 32 26 b (omega arith)) i;
      generating_software = (c.bytes_at-3.ensures ∙ window_is 32 58 b (omega arith)) i;
      file_creation_day_of_year = c.u16_at-3.ensures i;
      file_creation_year = c.u16_at-4.ensures i;
      header_size = c.u16_at-5.ensures i;
      offset_to_point_data = c.u32_at.ensures i;
      number_of_variable_length_records = c.u32_at-2.ensures i;
      point_data_record_format = c.u8_at-2.ensures i;
      point_data_record_length = c.u16_at-6.ensures i;
      number_of_point_records = c.u32_at-3.ensures i;
      number_of_points_by_return = c.by_return.ensures i;
      x_scale_factor = (c.f64_at.ensures i).value;
      y_scale_factor = (c.f64_at-2.ensures i).value;
      z_scale_factor = (c.f64_at-3.ensures i).value;
      x_offset = (c.f64_at-4.ensures i).value;
      y_offset = (c.f64_at-5.ensures i).value;
      z_offset = (c.f64_at-6.ensures i).value;
      max_x = (c.f64_at-7.ensures i).value;
      min_x = (c.f64_at-8.ensures i).value;
      max_y = (c.f64_at-9.ensures i).value;
      min_y = (c.f64_at-10.ensures i).value;
      max_z = (c.f64_at-11.ensures i).value;
      min_z = (c.f64_at-12.ensures i).value;
      nans = c.read_nans.ensures i;
      start_of_waveform_data_packet_record = (c.start_of.ensures ∙ ap start_of c.u64_at-2.ensures) i;
      evlr = (c.evlr_of.ensures ∙ λ j. evlr_of (c.u64_at-3.ensures j) (c.u32_at-4.ensures j)) i;
      has_large_file = eqb (c.u8_at-minor.ensures i) 4;
      large_file = record { number_of_point_records = c.u64_at.ensures i; number_of_points_by_return = c.large_by_return.ensures i };
    }
