use Rattle.std.specs.Prelude.{Ok}
use mathlib.Core.Path.{ap, ◌∙◌}
use borrow.Author.Tests.{lt-ltb, le-ltb}
use Rattle.layout.specs.declared.Places.{Places}
use Rattle.layout.specs.Layout.{places_of}
use Rattle.point.specs.Read.{nir_at, point_of, sized_of}
use Rattle.point.proofs.marks.read_sized.Goals as goal

pub returns-then-s-n : goal.returns-then-s-n
unfolding sized_of
returns-then-s-n c = rw (lt-ltb _ _ c.if-s-n.true)

pub returns : goal.returns
unfolding sized_of point_of places_of
returns c =
    let a = c.args in
    rw (le-ltb _ _ c.if-s-n.false)
    (λ i. Ok (record {
      flags = c.flags_at.ensures i;
      scan_angle = c.angle_at.ensures i;
      nir = (c.nir_at.ensures ∙ ap (λ (at : Places). nir_at a.format.has_nir at.nir a.s.now) c.places_for-at.ensures) i;
    }))
