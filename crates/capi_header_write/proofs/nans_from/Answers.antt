use Rattle.capi_header_write.specs.Numbers.{nans_from}
use Rattle.capi_header_write.proofs.nans_from.Goals as goal

pub returns : goal.returns
unfolding nans_from
returns c =
    λ i. record {
      x_scale_factor = c.nan.ensures i;
      y_scale_factor = c.nan-2.ensures i;
      z_scale_factor = c.nan-3.ensures i;
      x_offset = c.nan-4.ensures i;
      y_offset = c.nan-5.ensures i;
      z_offset = c.nan-6.ensures i;
      max_x = c.nan-7.ensures i;
      min_x = c.nan-8.ensures i;
      max_y = c.nan-9.ensures i;
      min_y = c.nan-10.ensures i;
      max_z = c.nan-11.ensures i;
      min_z = c.nan-12.ensures i;
    }
