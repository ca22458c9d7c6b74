use Prim.Native.Nat.{ℕ, ◌-◌, ◌≤◌, ◌<◌}
use mathlib.Core.Path.{◌≡◌, refl, sym, ◌∙◌}
use mathlib.Core.Bool.{Bool, true, false}
use mathlib.Core.List.{List}
use native.Mathlib.Omega.{arith}
use borrow.Author.Tests.{leb-true, leb-false}
use lib.Dec.{leb}
use lib.ListN.{length}
use Rattle.attribute.specs.declared.Attribute.{Attribute}
use Rattle.attribute_value.specs.Value.{value_at, lies}
use Rattle.attribute_value.specs.Laws.{so_lies, lies-not}
use Rattle.attribute_value.proofs.lies.Goals as goal

-- by its end, where all else holds
by_end : (a : Attribute) (point : ℕ) (s : List ℕ) → 20 ≤ a.stride → a.stride ≤ 65535 → 0 < point → point ≤ a.count → a.size ≤ length s → leb (value_at a point) (length s - a.size) ≡ lies a point s
by_end a point s least most one counted fits = go (leb (value_at a point) (length s - a.size)) refl
  where
    go : (b : Bool) → leb (value_at a point) (length s - a.size) ≡ b → b ≡ lies a point s
    go true e = sym (so_lies a point s (record { least = least; most = most; one = one; counted = counted; ends = omega (arith, leb-true (value_at a point) (length s - a.size) e) }))
    go false e = sym (lies-not a point s (λ h. omega (arith, leb-false (value_at a point) (length s - a.size) e, h.ends)))

pub returns-then-a-lt20 : goal.returns-then-a-lt20
returns-then-a-lt20 c = let a = c.args in sym (lies-not a.a a.point a.file.now (λ h. omega (arith, h.least)))

pub returns-then-a-gt65535 : goal.returns-then-a-gt65535
returns-then-a-gt65535 c = let a = c.args in sym (lies-not a.a a.point a.file.now (λ h. omega (arith, h.most)))

pub returns-then-point-eq0 : goal.returns-then-point-eq0
returns-then-point-eq0 c = let a = c.args in sym (lies-not a.a a.point a.file.now (λ h. omega (arith, h.one)))

pub returns-then-a-point : goal.returns-then-a-point
returns-then-a-point c = let a = c.args in sym (lies-not a.a a.point a.file.now (λ h. omega (arith, h.counted)))

pub returns-then-file-a : goal.returns-then-file-a
returns-then-file-a c = let a = c.args in sym (lies-not a.a a.point a.file.now (λ h. omega (arith, h.ends)))

pub returns : goal.returns
returns c =
    let a = c.args in
    c.ends_by.ensures ∙ by_end a.a a.point a.file.now (omega arith) (omega arith) (omega arith) (omega arith) (omega arith)
