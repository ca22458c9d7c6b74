use lib.Dec.{leb}
use Rattle.format.specs.Codes.{is_in, coded}
use Rattle.format.proofs.with_code.Goals as goal

-- Each search through a list told its attribute.
pub returns : goal.returns
unfolding coded is_in
returns c =
    λ i.
    record {
      has_gps_time = c.contains.ensures.value i;
      has_color = c.contains-2.ensures.value i;
      is_extended = leb 6 c.args.n;
      has_waveform = c.contains-3.ensures.value i;
      has_nir = c.contains-4.ensures.value i;
      extra_bytes = 0;
      is_compressed = c.args.is_compressed;
    }
