use Rattle.std.specs.Prelude.{None}
use mir.Syntax.{w16, w32}
use Rattle.angle.specs.declared.ScanAngle.TheVariants.{Scaled}
use Rattle.le.proofs.Twos.{kept}
use Rattle.strict.proofs.upgraded_old.Goals as goal

-- each field is read back from its bits, or is what a call answered
pub returns : goal.returns
returns c =
    let p = c.args.point in
    let known = c.struct_told-1.given in
    λ i. record {
      x = kept w32 p.x known.0.1 i;
      y = kept w32 p.y known.1.0.1 i;
      z = kept w32 p.z known.1.1.0.1 i;
      intensity = p.intensity;
      flags = c.moved_flags-flags.ensures i;
      scan_angle = Scaled (kept w16 c.args.scaled c.ranges.scaled.sfits i);
      user_data = p.user_data;
      point_source_id = p.point_source_id;
      gps_time = p.gps_time;
      color = p.color;
      waveform = p.waveform;
      nir = None;
    }
