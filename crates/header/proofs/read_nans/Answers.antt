use Rattle.header.specs.Header.{nans_of}
use Rattle.header.proofs.read_nans.Goals as goal

pub returns : goal.returns
unfolding nans_of
returns c =
    λ i. record {
      x_scale_factor = (c.f64_at.ensures i).nan;
      y_scale_factor = (c.f64_at-2.ensures i).nan;
      z_scale_factor = (c.f64_at-3.ensures i).nan;
      x_offset = (c.f64_at-4.ensures i).nan;
      y_offset = (c.f64_at-5.ensures i).nan;
      z_offset = (c.f64_at-6.ensures i).nan;
      max_x = (c.f64_at-7.ensures i).nan;
      min_x = (c.f64_at-8.ensures i).nan;
      max_y = (c.f64_at-9.ensures i).nan;
      min_y = (c.f64_at-10.ensures i).nan;
      max_z = (c.f64_at-11.ensures i).nan;
      min_z = (c.f64_at-12.ensures i).nan;
    }
