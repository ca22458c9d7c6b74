use mathlib.Core.Path.{ap, ◌∙◌}
use mir.Syntax.{w32}
use mir.Val.{to_z}
use Rattle.words.specs.Words.{flags_of, angle_of}
use Rattle.le.proofs.Twos.{kept}
use Rattle.capi_point.specs.Numbers.{point_from}
use Rattle.capi_point.proofs.point_from.Goals as goal

pub returns : goal.returns
unfolding point_from
returns c =
    let x = kept w32 _ c.cast_signed.type_inv ∙ c.cast_signed.ensures ∙ ap (to_z w32) c.low32.ensures in
    let y = kept w32 _ c.cast_signed-2.type_inv ∙ c.cast_signed-2.ensures ∙ ap (to_z w32) c.low32-2.ensures in
    let z = kept w32 _ c.cast_signed-3.type_inv ∙ c.cast_signed-3.ensures ∙ ap (to_z w32) c.low32-3.ensures in
    let flags = c.flags_of.ensures ∙ ap flags_of c.low32-4.ensures in
    let angle = c.angle_of.ensures ∙ ap angle_of c.low32-5.ensures in
    λ i. record {
      x = x i;
      y = y i;
      z = z i;
      intensity = c.low16.ensures i;
      flags = flags i;
      scan_angle = angle i;
      user_data = c.low8.ensures i;
      point_source_id = c.low16-2.ensures i;
      gps_time = c.time_from.ensures i;
      color = c.color_from.ensures i;
      waveform = c.maybe_waveform_from.ensures i;
      nir = c.nir_from.ensures i;
    }
