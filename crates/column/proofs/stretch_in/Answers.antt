use Rattle.std.specs.Prelude.{Ok, Err}
use Prim.Native.Nat.{ℕ, ◌+◌, ◌*◌, ◌-◌, ◌≤◌, ◌<◌, ◌^◌}
use mathlib.Core.Path.{◌≡◌, sym, ap, subst, ◌∙◌}
use mathlib.Core.Bool.{true}
use native.Mathlib.Nat.{mul-le-mul_right}
use native.Mathlib.Omega.{arith}
use Rattle.format.specs.Fields.{record_bytes}
use Rattle.layout.specs.Placed.{laid}
use Rattle.column.specs.Column.{has_in, within}
use Rattle.column.specs.Stretch.{inside_says, in_record, lacking, beyond, short, there}
use Rattle.column.proofs.stretch_in.Goals as goal
use Rattle.column.proofs.stretch_in.Goals.{After-for_format-stride, Else-not-has, Else-not-within}

pub returns-then-not-has : goal.returns-then-not-has
returns-then-not-has c =
    let a = c.args in
    ap Err c.into.ensures ∙ sym (lacking a.format a.at a.points a.column a.first a.count a.room (sym c.has.ensures ∙ c.if-not-has.true))

-- the format has the field
has : (x : Else-not-has) → has_in x.args.format x.args.column ≡ true
has x = sym x.has.ensures ∙ x.if-not-has.false

pub returns-then-not-within : goal.returns-then-not-within
returns-then-not-within c =
    let b = c.args in
    let x = (goal.at.returns-then-not-within c).Else-not-has in
    ap Err c.into-then-not-within.ensures ∙ sym (beyond b.format b.at b.points b.column b.first b.count b.room (has x) (sym c.within.ensures ∙ c.if-not-within.true))

-- and the stretch is within the points
module _ (y : Else-not-within) where
  in_points : within y.args.first y.args.count y.args.points ≡ true
  in_points = sym y.within.ensures ∙ y.if-not-within.false

  one : (0 < y.args.first) × (y.args.first - 1 + y.args.count ≤ y.args.points)
  one = inside_says y.args.first y.args.count y.args.points in_points

pub returns-then-room-count : goal.returns-then-room-count
returns-then-room-count c =
    let b = c.args in
    let y = (goal.at.returns-then-room-count c).Else-not-within in
    let x = (goal.at.returns-then-room-count c).Else-not-has in
    ap Err c.into-then-room-count.ensures ∙ sym (short b.format b.at b.points b.column b.first b.count b.room (has x) (in_points y) c.if-room-count.true)

-- what stands before it ends in the points
module _ (z : After-for_format-stride) where
  long : z.for_format-stride.result.record_len ≡ record_bytes z.args.format
  long = (laid z.args.format z.for_format-stride.ensures).long

  most : z.args.at + (z.args.first - 1) * z.for_format-stride.result.record_len < 2 ^ 63
  most =
      let b = z.args in
      let n = record_bytes b.format in
      let y = (goal.at.After-for_format-stride z).Else-not-within in
      let less : (b.first - 1) * n ≤ b.points * n = mul-le-mul_right n (omega (arith, (one y).1)) in
      subst (λ (m : ℕ). b.at + (b.first - 1) * m < 2 ^ 63) (sym long) (omega (arith, z.requires))

pub returns : goal.returns
returns c =
    let z = (goal.at.returns c).After-for_format-stride in
    let y = (goal.at.returns c).Else-not-within in
    let x = (goal.at.returns c).Else-not-has in
    let k = c.args in
    ap (λ (m : ℕ). Ok (record { at = k.at + (k.first - 1) * m + c.place_in.result; stride = m; count = k.count })) (long z)
    ∙ ap (λ (m : ℕ). Ok (record { at = k.at + (k.first - 1) * record_bytes k.format + m; stride = record_bytes k.format; count = k.count })) c.place_in.ensures
    ∙ sym (there k.format k.at k.points k.column k.first k.count k.room (has x) (in_points y) c.if-room-count.false)

pub overflow_sub-result : goal.overflow_sub-result
overflow_sub-result c = (one (goal.at.overflow_sub-result c).Else-not-within).0

pub overflow_mul-result : goal.overflow_mul-result
overflow_mul-result c = omega (arith, most (goal.at.overflow_mul-result c).After-for_format-stride)

pub overflow_add-result : goal.overflow_add-result
overflow_add-result c = omega (arith, most (goal.at.overflow_add-result c).After-for_format-stride)

pub overflow_add-result-2 : goal.overflow_add-result-2
overflow_add-result-2 c =
    let z = (goal.at.overflow_add-result-2 c).After-for_format-stride in
    let x = (goal.at.overflow_add-result-2 c).Else-not-has in
    omega (arith, most z, c.place_in.ensures, (in_record c.args.format c.args.column (has x)).1)
