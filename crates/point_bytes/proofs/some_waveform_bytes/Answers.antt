use mathlib.Core.List.{◌∷◌, ◌++◌}
use Rattle.point_bytes.proofs.Split.{four, eight}
use Rattle.point_bytes.proofs.some_waveform_bytes.Goals as goal

pub returns : goal.returns
returns c =
    λ i. c.args.w.wave_packet_descriptor_index
    ∷ (eight (c.to_le_bytes.ensures i) ++ (four (c.to_le_bytes-2.ensures i) ++ (four (c.float_bytes.ensures i) ++ (four (c.float_bytes-2.ensures i) ++ (four (c.float_bytes-3.ensures i) ++ four (c.float_bytes-4.ensures i))))))
