use Prim.Native.Nat.{ℕ, ◌/◌, ◌%◌}
use mathlib.Core.Path.{◌≡◌}
use mathlib.Core.Bool.{false, not}
use borrow.Author.Tests.{eq-eqb, ne_eqb}
use lib.Dec.{eqb}
use Rattle.header.specs.declared.Version.{Version}
use Rattle.outline.specs.Outline.{is_waveform}
use Rattle.outline.proofs.is_waveform.Goals as goal

-- what is said of a version and an encoding, test by test
module _ (v : Version) (encoding start : ℕ) where
  other-major : (v.major ≡ 1 → ⊥) → false ≡ is_waveform v encoding start
  unfolding is_waveform
  other-major h = rw (ne_eqb v.major 1 h)

  other-minor : v.major ≡ 1 → (v.minor ≡ 3 → ⊥) → false ≡ is_waveform v encoding start
  unfolding is_waveform
  other-minor one h = rw (eq-eqb v.major 1 one, ne_eqb v.minor 3 h)

  no-bit : v.major ≡ 1 → v.minor ≡ 3 → (encoding / 2 % 2 ≡ 1 → ⊥) → false ≡ is_waveform v encoding start
  unfolding is_waveform
  no-bit one three h = rw (eq-eqb v.major 1 one, eq-eqb v.minor 3 three, ne_eqb (encoding / 2 % 2) 1 h)

  by_start_lem : v.major ≡ 1 → v.minor ≡ 3 → encoding / 2 % 2 ≡ 1 → not (eqb start 0) ≡ is_waveform v encoding start
  unfolding is_waveform
  by_start_lem one three bit = rw (eq-eqb v.major 1 one, eq-eqb v.minor 3 three, eq-eqb (encoding / 2 % 2) 1 bit)

pub returns-then-version-ne1 : goal.returns-then-version-ne1
returns-then-version-ne1 c = other-major _ _ _ c.if-version-ne1.true

pub returns-then-version-ne3 : goal.returns-then-version-ne3
returns-then-version-ne3 c = other-minor _ _ _ c.if-version-ne1.false c.if-version-ne3.true

pub returns-then-global_encoding-ne1 : goal.returns-then-global_encoding-ne1
returns-then-global_encoding-ne1 c = no-bit _ _ _ c.if-version-ne1.false c.if-version-ne3.false c.if-global_encoding-ne1.true

pub returns : goal.returns
returns c = by_start_lem _ _ _ c.if-version-ne1.false c.if-version-ne3.false c.if-global_encoding-ne1.false
