use Prim.Native.Nat.{ℕ}
use mathlib.Core.Path.{ap, ◌∙◌}
use native.Mathlib.Omega.{arith}
use mir.Syntax.{w32}
use Rattle.le.specs.Le.{num}
use Rattle.le.proofs.Twos.{kept}
use Rattle.format.specs.Laws.{record_end}
use Rattle.layout.specs.Placed.{Placed, placed}
use Rattle.point.specs.Read.{time_at, color_at, nir_at, maybe_waveform_at, point_of}
use Rattle.point.proofs.read_whole.Goals as goal
use Rattle.point.proofs.read_whole.Goals.{After-places_for-at, Start}

module _ (p : After-places_for-at) where
  abbrev begun : Start
  begun = (goal.at.After-places_for-at p).Start

  at : Placed begun.args.format p.places_for-at.result
  at = placed begun.args.format p.places_for-at.ensures

pub time_at-requires : goal.time_at-requires
time_at-requires c =
    omega (arith, (at (goal.at.time_at-requires c).After-places_for-at).time, record_end (begun (goal.at.time_at-requires c).After-places_for-at).args.format, (begun (goal.at.time_at-requires c).After-places_for-at).requires)

pub color_at-requires : goal.color_at-requires
color_at-requires c =
    omega (arith, (at (goal.at.color_at-requires c).After-places_for-at).color, record_end (begun (goal.at.color_at-requires c).After-places_for-at).args.format, (begun (goal.at.color_at-requires c).After-places_for-at).requires)

pub waveform_at-requires : goal.waveform_at-requires
waveform_at-requires c =
    omega (arith, (at (goal.at.waveform_at-requires c).After-places_for-at).waveform, record_end (begun (goal.at.waveform_at-requires c).After-places_for-at).args.format, (begun (goal.at.waveform_at-requires c).After-places_for-at).requires)

pub returns : goal.returns
unfolding point_of
returns c =
    let f = (begun (goal.at.returns c).After-places_for-at).args.format in
    let l = (begun (goal.at.returns c).After-places_for-at).args.s.now in
    λ i. record {
      x = (kept w32 _ c.i32_at.type_inv ∙ c.i32_at.ensures) i;
      y = (kept w32 _ c.i32_at-2.type_inv ∙ c.i32_at-2.ensures) i;
      z = (kept w32 _ c.i32_at-3.type_inv ∙ c.i32_at-3.ensures) i;
      intensity = c.u16_at.ensures i;
      flags = c.flags_at.ensures i;
      scan_angle = c.angle_at.ensures i;
      user_data = c.u8_at.ensures i;
      point_source_id = (c.u16_at-2.ensures ∙ ap (λ (n : ℕ). num 2 n l) (at (goal.at.returns c).After-places_for-at).source) i;
      gps_time = (c.time_at.ensures ∙ ap (λ (n : ℕ). time_at f.has_gps_time n l) (at (goal.at.returns c).After-places_for-at).time) i;
      color = (c.color_at.ensures ∙ ap (λ (n : ℕ). color_at f.has_color n l) (at (goal.at.returns c).After-places_for-at).color) i;
      waveform = (c.waveform_at.ensures ∙ ap (λ (n : ℕ). maybe_waveform_at f.has_waveform n l) (at (goal.at.returns c).After-places_for-at).waveform) i;
      nir = (c.nir_at.ensures ∙ ap (λ (n : ℕ). nir_at f.has_nir n l) (at (goal.at.returns c).After-places_for-at).nir) i;
    }
