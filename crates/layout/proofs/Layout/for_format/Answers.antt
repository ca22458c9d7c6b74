use mathlib.Core.Path.{◌≡◌, sym, ap, ◌∙◌}
use Prim.Native.Nat.{ℕ, ◌+◌}
use native.Mathlib.Omega.{arith}
use Rattle.format.specs.declared.Field.TheVariants.{ExtraBytes}
use Rattle.format.specs.Fields.{place_of}
use Rattle.format.specs.Laws.{further, record_end, fixed_le}
use Rattle.layout.specs.declared.Places.{Places}
use Rattle.layout.specs.Layout.{places_of, placed_of, layout_of}
use Rattle.layout.specs.Placed.{placed}
use Rattle.layout.proofs.Layout.for_format.Goals as goal
use Rattle.layout.proofs.Layout.for_format.Goals.{After-places_for-at}

-- Field by field, from the places that the call gave.
last : (c : After-places_for-at) → c.places_for-at.result.extra_bytes ≡ place_of c.args.format ExtraBytes
last c = (placed c.args.format c.places_for-at.ensures).extra

pub overflow_add-result-2 : goal.overflow_add-result-2
overflow_add-result-2 c =
    omega (arith, last (goal.at.overflow_add-result-2 c).After-places_for-at, fixed_le c.args.format)

pub returns : goal.returns
unfolding places_of placed_of layout_of
returns c =
    let f = c.args.format in
    let e = c.places_for-at.ensures in
    λ i. record {
      user_data = 17;
      scan_angle = (ap (λ (n : ℕ). 16 + n) c.when.ensures.0 ∙ sym (further 16 f.is_extended)) i;
      point_source_id = (e i).point_source_id;
      gps_time = (c.then_some.ensures ∙ ap (λ (x : Places). placed_of f.has_gps_time x.gps_time) e) i;
      rgb = (c.then_some-2.ensures ∙ ap (λ (x : Places). placed_of f.has_color x.color) e) i;
      nir = (c.then_some-3.ensures ∙ ap (λ (x : Places). placed_of f.has_nir x.nir) e) i;
      record_len = (ap (λ (n : ℕ). n + f.extra_bytes) (last (goal.at.returns c).After-places_for-at) ∙ sym (record_end f)) i;
    }
