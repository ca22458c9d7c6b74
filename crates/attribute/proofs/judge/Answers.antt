use Rattle.std.specs.Prelude.{Ok}
use Prim.Native.Nat.{ℕ, ◌+◌, ◌/◌}
use mathlib.Core.Path.{◌≡◌, ap, sym, ◌∙◌}
use mathlib.Core.Bool.{Bool}
use native.Mathlib.Omega.{arith}
use lib.Dec.{leb}
use lib.ListN.{length}
use Rattle.format.specs.declared.Format.{Format}
use Rattle.format.specs.declared.Field.TheVariants.{ExtraBytes}
use Rattle.format.specs.Fields.{place_of}
use Rattle.format.specs.Laws.{fixed_le}
use Rattle.layout.specs.Placed.{placed}
use Rattle.file.specs.Points.{point_format}
use Rattle.attribute.specs.Attributes.{types_known, sizes_of, before_first}
use Rattle.attribute.specs.Laws.{not_a_multiple, type_unknown, sizes_over, described}
use Rattle.attribute.proofs.judge.Goals as goal
use Rattle.attribute.proofs.judge.Goals.{After-places_for, After-sizes_fit, After-types_known}

pub returns-then-data-ne0 : goal.returns-then-data-ne0
returns-then-data-ne0 c =
    let a = c.args in
    rw c.into.ensures (sym (not_a_multiple a.o a.start a.«data».now c.if-data-ne0.true))

-- the data is a multiple
types : (t : After-types_known) {b : Bool} → t.types_known.result ≡ b → types_known (length t.args.«data».now / 192) t.args.«data».now ≡ b
types t is = sym t.types_known.ensures ∙ is

pub returns-then-not-types_known : goal.returns-then-not-types_known
returns-then-not-types_known c =
    let a = c.args in
    rw c.into-then-not-types_known.ensures (sym (type_unknown a.o a.start a.«data».now c.if-data-ne0.false (types (goal.at.returns-then-not-types_known c).After-types_known c.if-not-types_known.true)))

-- and the types are known
module _ (z : After-sizes_fit) where
  known : types_known (length z.args.«data».now / 192) z.args.«data».now ≡ Bool.true
  known = types (goal.at.After-sizes_fit z).After-types_known z.if-not-types_known.false

  fit : {b : Bool} → z.sizes_fit.result ≡ b → leb (sizes_of (length z.args.«data».now / 192) z.args.«data».now) (point_format z.args.o).extra_bytes ≡ b
  fit is = ap (λ (g : Format). leb (sizes_of (length z.args.«data».now / 192) z.args.«data».now) g.extra_bytes) (sym z.point_format-format.ensures) ∙ sym z.sizes_fit.ensures ∙ is

pub returns-then-not-sizes_fit : goal.returns-then-not-sizes_fit
returns-then-not-sizes_fit c =
    let a = c.args in
    let z = (goal.at.returns-then-not-sizes_fit c).After-sizes_fit in
    rw c.into-then-not-sizes_fit.ensures (sym (sizes_over a.o a.start a.«data».now c.if-data-ne0.false (known z) (fit z c.if-not-sizes_fit.true)))

-- where the extra bytes begin
extra : (p : After-places_for) → p.places_for.result.extra_bytes ≡ place_of (point_format p.args.o) ExtraBytes
extra p = (placed p.point_format-format.result p.places_for.ensures).extra ∙ ap (λ (g : Format). place_of g ExtraBytes) p.point_format-format.ensures

pub overflow_add-at : goal.overflow_add-at
overflow_add-at c = omega (arith, extra (goal.at.overflow_add-at c).After-places_for, fixed_le (point_format c.args.o))

pub returns : goal.returns
unfolding before_first
returns c =
    let a = c.args in
    let p = goal.at.returns c in
    ap (λ (k : ℕ). Ok (record { descriptor = a.start; left = length a.«data».now / 192; at = a.o.offset_to_point_data + k; stride = a.o.point_data_record_length; count = a.o.number_of_point_records })) (extra p.After-places_for)
    ∙ sym (described a.o a.start a.«data».now c.if-data-ne0.false (known p.After-sizes_fit) (fit p.After-sizes_fit c.if-not-sizes_fit.false))
