use Rattle.capi_point.specs.Numbers.{waveform_from}
use Rattle.capi_point.proofs.waveform_from.Goals as goal

pub returns : goal.returns
unfolding waveform_from
returns c =
    let a = c.args in
    λ i. record {
      wave_packet_descriptor_index = a.index;
      byte_offset_to_waveform_data = a.offset;
      waveform_packet_size_in_bytes = a.size;
      return_point_waveform_location = (c.from_bits-location.ensures i).value;
      x_t = (c.from_bits-x_t.ensures i).value;
      y_t = (c.from_bits-y_t.ensures i).value;
      z_t = (c.from_bits-z_t.ensures i).value;
      nans = record {
        return_point_waveform_location = (c.from_bits-location.ensures i).nan;
        x_t = (c.from_bits-x_t.ensures i).nan;
        y_t = (c.from_bits-y_t.ensures i).nan;
        z_t = (c.from_bits-z_t.ensures i).nan;
      };
    }
