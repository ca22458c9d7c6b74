use Prim.Native.Nat.{◌+◌, ◌^◌}
use mathlib.Core.Path.{◌≡◌, sym, ◌∙◌}
use mathlib.Core.Bool.{true, false}
use native.Mathlib.Omega.{arith}
use borrow.Author.Tests.{lt-ltb, le-ltb}
use Rattle.header_convert.specs.Turned.{is_of, beside, new_goes}
use Rattle.header_convert.proofs.ask_new.Goals as goal
use Rattle.header_convert.proofs.ask_new.Goals.{Else-is_beside, Else-not-is_of}

-- version and format, and what is beside the points, as they were tested
is : (c : Else-not-is_of) → is_of 2 1 3 c.args.header ≡ true
is c = sym c.is_of.ensures ∙ c.if-not-is_of.false

alone : (c : Else-is_beside) → beside c.args.header ≡ false
alone c = sym c.is_beside.ensures ∙ c.if-is_beside.false

pub returns-then-not-is_of : goal.returns-then-not-is_of
unfolding new_goes
returns-then-not-is_of c = rw (← c.is_of.ensures, c.if-not-is_of.true)

pub returns-then-is_beside : goal.returns-then-is_beside
unfolding new_goes
returns-then-is_beside c = rw (is (goal.at.returns-then-is_beside c).Else-not-is_of, ← c.is_beside.ensures, c.if-is_beside.true)

pub returns-then-header-gt65387 : goal.returns-then-header-gt65387
unfolding new_goes
returns-then-header-gt65387 c =
    let h = c.args.header in
    rw (is (goal.at.returns-then-header-gt65387 c).Else-not-is_of, alone (goal.at.returns-then-header-gt65387 c).Else-is_beside, le-ltb (h.header_size + 148) (2 ^ 16) (omega arith))

pub returns-then-header-gt4294967147 : goal.returns-then-header-gt4294967147
unfolding new_goes
returns-then-header-gt4294967147 c =
    let h = c.args.header in
    rw (is (goal.at.returns-then-header-gt4294967147 c).Else-not-is_of, alone (goal.at.returns-then-header-gt4294967147 c).Else-is_beside, lt-ltb (h.header_size + 148) (2 ^ 16) (omega arith), le-ltb (h.offset_to_point_data + 148) (2 ^ 32) (omega arith))

pub returns-then-header-gt65533 : goal.returns-then-header-gt65533
unfolding new_goes
returns-then-header-gt65533 c =
    let h = c.args.header in
    rw (is (goal.at.returns-then-header-gt65533 c).Else-not-is_of, alone (goal.at.returns-then-header-gt65533 c).Else-is_beside, lt-ltb (h.header_size + 148) (2 ^ 16) (omega arith), lt-ltb (h.offset_to_point_data + 148) (2 ^ 32) (omega arith), le-ltb (h.point_data_record_length + 2) (2 ^ 16) (omega arith))

pub returns : goal.returns
unfolding new_goes
returns c =
    let h = c.args.header in
    rw (is (goal.at.returns c).Else-not-is_of, alone (goal.at.returns c).Else-is_beside, lt-ltb (h.header_size + 148) (2 ^ 16) (omega arith), lt-ltb (h.offset_to_point_data + 148) (2 ^ 32) (omega arith), lt-ltb (h.point_data_record_length + 2) (2 ^ 16) (omega arith))
