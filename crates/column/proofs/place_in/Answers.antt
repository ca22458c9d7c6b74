use Prim.Native.Nat.{ℕ, ◌+◌}
use mathlib.Core.Path.{◌≡◌, ap, sym, ◌∙◌}
use native.Mathlib.Omega.{arith}
use Rattle.format.specs.Laws.{fixed_le}
use Rattle.layout.specs.Placed.{placed}
use Rattle.column.specs.declared.Channel.TheVariants.{Red, Green, Blue, Nir}
use Rattle.column.specs.declared.Column.TheVariants.{Channel}
use Rattle.column.specs.Column.{place_in}
use Rattle.column.proofs.place_in.Goals as goal

pub returns-in-Time : goal.returns-in-Time
returns-in-Time c = (placed c.args.format c.places_for-at.ensures).time ∙ sym (ap (place_in c.args.format) c.in-Time.is)

pub returns-in-Channel-Red : goal.returns-in-Channel-Red
returns-in-Channel-Red c =
    let column : c.args.column ≡ Channel Red = c.in-Channel-Red.is ∙ ap Channel (rw c.in-Channel-Red.is at c.in-Channel-Red.field-0-is) in
    (placed c.args.format c.places_for-at.ensures).color ∙ sym (ap (place_in c.args.format) column)

pub returns-in-Channel-Green : goal.returns-in-Channel-Green
returns-in-Channel-Green c =
    let column : c.args.column ≡ Channel Green = c.in-Channel-Green.is ∙ ap Channel (rw c.in-Channel-Green.is at c.in-Channel-Green.field-0-is) in
    ap (λ (n : ℕ). n + 2) (placed c.args.format c.places_for-at.ensures).color ∙ sym (ap (place_in c.args.format) column)

pub returns-in-Channel-Blue : goal.returns-in-Channel-Blue
returns-in-Channel-Blue c =
    let column : c.args.column ≡ Channel Blue = c.in-Channel-Blue.is ∙ ap Channel (rw c.in-Channel-Blue.is at c.in-Channel-Blue.field-0-is) in
    ap (λ (n : ℕ). n + 4) (placed c.args.format c.places_for-at.ensures).color ∙ sym (ap (place_in c.args.format) column)

pub returns-in-Channel-Nir : goal.returns-in-Channel-Nir
returns-in-Channel-Nir c =
    let column : c.args.column ≡ Channel Nir = c.in-Channel-Nir.is ∙ ap Channel (rw c.in-Channel-Nir.is at c.in-Channel-Nir.field-0-is) in
    (placed c.args.format c.places_for-at.ensures).nir ∙ sym (ap (place_in c.args.format) column)

pub overflow_add-result : goal.overflow_add-result
overflow_add-result c = omega (arith, fixed_le c.args.format, (placed c.args.format c.places_for-at.ensures).color)

pub overflow_add-result-in-Channel-Blue : goal.overflow_add-result-in-Channel-Blue
overflow_add-result-in-Channel-Blue c = omega (arith, fixed_le c.args.format, (placed c.args.format c.places_for-at.ensures).color)
