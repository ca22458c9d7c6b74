use Rattle.std.specs.Prelude.{Option, Some}
use Prim.Native.Nat.{ℕ, ◌+◌, ◌-◌}
use mathlib.Core.Path.{◌≡◌, sym, ◌∙◌}
use mathlib.Core.List.{List}
use native.Mathlib.Omega.{arith}
use lib.ListN.{drop}
use Rattle.descriptor.specs.Descriptor.{type_in}
use Rattle.attribute.specs.declared.Attributes.{Attributes}
use Rattle.attribute.specs.declared.Step.{Step}
use Rattle.attribute.specs.Attributes.{size_at, attribute_at, after, step_of}
use Rattle.attribute.specs.Laws.{type_at, none_left, no_descriptor_lem, too_far_lem, one-there}
use Rattle.attribute.proofs.next.Goals as goal

-- the attribute that is made
made : (s : List ℕ) (k : Attributes) {t z : ℕ} → t ≡ type_in (drop k.descriptor s) → z ≡ size_at k.descriptor s
    → ◌≡◌ {A = Option Step} (Some (record { attribute = record { data_type = t; size = z; at = k.at; stride = k.stride; count = k.count }; descriptor = k.descriptor; next = record { descriptor = k.descriptor + 192; left = k.left - 1; at = k.at + z; stride = k.stride; count = k.count } }))
    (Some (step_of (attribute_at s k.descriptor k.at k) k.descriptor (after s k)))
unfolding attribute_at after
made s k p q = λ i.
    Some (record {
      attribute = record { data_type = p i; size = q i; at = k.at; stride = k.stride; count = k.count };
      descriptor = k.descriptor;
      next = record { descriptor = k.descriptor + 192; left = k.left - 1; at = k.at + q i; stride = k.stride; count = k.count };
    })

pub returns-then-c-eq0 : goal.returns-then-c-eq0
returns-then-c-eq0 c = sym (none_left c.args.file.now c.args.c c.if-c-eq0.true)

pub returns-then-file-lt192 : goal.returns-then-file-lt192
returns-then-file-lt192 c = sym (no_descriptor_lem c.args.file.now c.args.c (omega arith))

pub returns-then-file-descriptor : goal.returns-then-file-descriptor
returns-then-file-descriptor c = sym (no_descriptor_lem c.args.file.now c.args.c (omega arith))

pub returns-then-c-gt9223372036854775807 : goal.returns-then-c-gt9223372036854775807
returns-then-c-gt9223372036854775807 c = sym (too_far_lem c.args.file.now c.args.c (omega arith))

pub returns : goal.returns
returns c =
    let a = c.args in
    made a.file.now a.c (c.u8_at.ensures ∙ type_at a.file.now a.c.descriptor) c.size_at-size.ensures.0
    ∙ sym (one-there a.file.now a.c (omega arith) (omega arith) (omega arith))

pub overflow_add-result-2 : goal.overflow_add-result-2
overflow_add-result-2 c = omega (arith, c.size_at-size.ensures.1)
