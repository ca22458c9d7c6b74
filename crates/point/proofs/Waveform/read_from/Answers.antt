use Prim.Native.Nat.{ℕ}
use Rattle.le.specs.declared.float.F32.{F32}
use Rattle.point.specs.declared.Waveform.{Waveform}
use Rattle.point.specs.Read.{waveform_at}
use Rattle.point.proofs.Waveform.read_from.Goals as goal

-- the waveform of what was read
abbrev made : ℕ → ℕ → ℕ → F32 → F32 → F32 → F32 → Waveform
made index offset size l x y z =
    record {
      wave_packet_descriptor_index = index;
      byte_offset_to_waveform_data = offset;
      waveform_packet_size_in_bytes = size;
      return_point_waveform_location = l.value;
      x_t = x.value;
      y_t = y.value;
      z_t = z.value;
      nans = record { return_point_waveform_location = l.nan; x_t = x.nan; y_t = y.nan; z_t = z.nan };
    }

pub returns : goal.returns
unfolding waveform_at
returns c =
    λ i. made (c.u8_at.ensures i) (c.u64_at.ensures i) (c.u32_at.ensures i) (c.f32_at-location.ensures i) (c.f32_at-x_t.ensures i) (c.f32_at-y_t.ensures i) (c.f32_at-z_t.ensures i)
