use borrow.Author.Tests.{lt-leb, le-leb}
use Prim.Native.Nat.{ℕ, ◌<◌, ◌^◌}
use mathlib.Core.Path.{◌≡◌, sym, ap, subst, ◌∙◌}
use lib.Dec.{T}
use lib.Ieee.{Float, binary32, fits, to_signed}
use lib.Ieee.Compare.{differs_from_itself}
use mir.Syntax.{w16}
use mir.ValLaws.{to_z_pos}
use Rattle.angle.proofs.Bits.{minus_fits, minus}
use Rattle.angle.proofs.Held.{signed, end}
use Rattle.angle.proofs.Whole.{negative, part, no_nan, part-fits, is_part, is_zero, is_end}
use Rattle.angle.proofs.whole16.Goals as goal
use Rattle.angle.proofs.whole16.Goals.{Else-e-gt141, Else-x, Then-e-gt141}

-- Each return is what the laws of Whole say of x's pattern.
abbrev x : Else-x → Float
x c = c.before.args.x

-- what owning an f32 tells: the format holds it
is-f32 : (c : Else-x) → T (fits binary32 (x c))
is-f32 c = subst T (sym c.well_formed.0.1) tt

pub returns-then-x : goal.returns-then-x
unfolding to_signed
returns-then-x c = sym (ap (to_signed 15) (differs_from_itself c.args.x (subst T (sym c.if-x.true) tt)))

at-end : (c : Then-e-gt141) → to_signed 15 (x (goal.at.Then-e-gt141 c).Else-x) ≡ end 15 (negative (x (goal.at.Then-e-gt141 c).Else-x))
at-end c = is_end (x (goal.at.Then-e-gt141 c).Else-x) (is-f32 (goal.at.Then-e-gt141 c).Else-x) c.if-e-gt141.true (no_nan (x (goal.at.Then-e-gt141 c).Else-x) c.if-x.false)

module _ (c : Else-e-gt141) where
  abbrev t : ℕ
  t = part (x (goal.at.Else-e-gt141 c).Else-x)

  small : t < 2 ^ 15
  small = part-fits (x (goal.at.Else-e-gt141 c).Else-x) c.if-e-gt141.false

  is : to_signed 15 (x (goal.at.Else-e-gt141 c).Else-x) ≡ signed (negative (x (goal.at.Else-e-gt141 c).Else-x)) t
  is = is_part (x (goal.at.Else-e-gt141 c).Else-x) (is-f32 (goal.at.Else-e-gt141 c).Else-x) c.if-e-gt141.false

pub returns-else-bits-lt-SIGN-2 : goal.returns-else-bits-lt-SIGN-2
returns-else-bits-lt-SIGN-2 c = minus w16 (t (goal.at.returns-else-bits-lt-SIGN-2 c).Else-e-gt141) (small (goal.at.returns-else-bits-lt-SIGN-2 c).Else-e-gt141) ∙ sym (is (goal.at.returns-else-bits-lt-SIGN-2 c).Else-e-gt141 ∙ rw (le-leb _ _ c.if-bits-lt-SIGN-2.false))

pub float_to_bits-bits : goal.float_to_bits-bits
float_to_bits-bits c = no_nan (x c) c.if-x.false

pub returns-then-e-lt127 : goal.returns-then-e-lt127
returns-then-e-lt127 c = sym (is_zero (x (goal.at.returns-then-e-lt127 c).Else-x) (is-f32 (goal.at.returns-then-e-lt127 c).Else-x) c.if-e-lt127.true)

pub returns-then-bits-lt-SIGN : goal.returns-then-bits-lt-SIGN
returns-then-bits-lt-SIGN c = sym (at-end (goal.at.returns-then-bits-lt-SIGN c).Then-e-gt141 ∙ rw (lt-leb _ _ c.if-bits-lt-SIGN.true))

pub returns-else-bits-lt-SIGN : goal.returns-else-bits-lt-SIGN
returns-else-bits-lt-SIGN c = sym (at-end (goal.at.returns-else-bits-lt-SIGN c).Then-e-gt141 ∙ rw (le-leb _ _ c.if-bits-lt-SIGN.false))

pub overflow_cast-t : goal.overflow_cast-t
overflow_cast-t c = record { sfits = small c }

pub overflow_sub-result : goal.overflow_sub-result
overflow_sub-result c = minus_fits w16 (t (goal.at.overflow_sub-result c).Else-e-gt141) (small (goal.at.overflow_sub-result c).Else-e-gt141)

pub returns-then-bits-lt-SIGN-2 : goal.returns-then-bits-lt-SIGN-2
returns-then-bits-lt-SIGN-2 c = to_z_pos w16 (t (goal.at.returns-then-bits-lt-SIGN-2 c).Else-e-gt141) (small (goal.at.returns-then-bits-lt-SIGN-2 c).Else-e-gt141) ∙ sym (is (goal.at.returns-then-bits-lt-SIGN-2 c).Else-e-gt141 ∙ rw (lt-leb _ _ c.if-bits-lt-SIGN-2.true))
