use mathlib.Core.Path.{◌≡◌, sym, ◌∙◌}
use mathlib.Core.Bool.{true, false}
use native.Mathlib.Omega.{arith}
use borrow.Author.Tests.{lt-leb, le-leb}
use Rattle.header_convert.specs.Turned.{is_of, beside, counts_fit, old_goes}
use Rattle.header_convert.proofs.ask_old.Goals as goal
use Rattle.header_convert.proofs.ask_old.Goals.{Else-is_beside, Else-not-counts_fit, Else-not-is_of}

-- version and format, what is beside the points, and the counts, as they were tested
is : (c : Else-not-is_of) → is_of 4 6 7 c.args.header ≡ true
is c = sym c.is_of.ensures ∙ c.if-not-is_of.false

alone : (c : Else-is_beside) → beside c.args.header ≡ false
alone c = sym c.is_beside.ensures ∙ c.if-is_beside.false

counts : (c : Else-not-counts_fit) → counts_fit c.args.header ≡ true
counts c = sym c.counts_fit.ensures ∙ c.if-not-counts_fit.false

pub returns-then-not-is_of : goal.returns-then-not-is_of
unfolding old_goes
returns-then-not-is_of c = rw (← c.is_of.ensures, c.if-not-is_of.true)

pub returns-then-is_beside : goal.returns-then-is_beside
unfolding old_goes
returns-then-is_beside c = rw (is (goal.at.returns-then-is_beside c).Else-not-is_of, ← c.is_beside.ensures, c.if-is_beside.true)

pub returns-then-not-counts_fit : goal.returns-then-not-counts_fit
unfolding old_goes
returns-then-not-counts_fit c = rw (is (goal.at.returns-then-not-counts_fit c).Else-not-is_of, alone (goal.at.returns-then-not-counts_fit c).Else-is_beside, ← c.counts_fit.ensures, c.if-not-counts_fit.true)

pub returns-then-header-lt148 : goal.returns-then-header-lt148
unfolding old_goes
returns-then-header-lt148 c =
    let h = c.args.header in
    rw (is (goal.at.returns-then-header-lt148 c).Else-not-is_of, alone (goal.at.returns-then-header-lt148 c).Else-is_beside, counts (goal.at.returns-then-header-lt148 c).Else-not-counts_fit, lt-leb 148 h.header_size (omega arith))

pub returns-then-header-lt148-2 : goal.returns-then-header-lt148-2
unfolding old_goes
returns-then-header-lt148-2 c =
    let h = c.args.header in
    rw (is (goal.at.returns-then-header-lt148-2 c).Else-not-is_of, alone (goal.at.returns-then-header-lt148-2 c).Else-is_beside, counts (goal.at.returns-then-header-lt148-2 c).Else-not-counts_fit, le-leb 148 h.header_size (omega arith), lt-leb 148 h.offset_to_point_data (omega arith))

pub returns-then-header-lt2 : goal.returns-then-header-lt2
unfolding old_goes
returns-then-header-lt2 c =
    let h = c.args.header in
    rw (is (goal.at.returns-then-header-lt2 c).Else-not-is_of, alone (goal.at.returns-then-header-lt2 c).Else-is_beside, counts (goal.at.returns-then-header-lt2 c).Else-not-counts_fit, le-leb 148 h.header_size (omega arith), le-leb 148 h.offset_to_point_data (omega arith), lt-leb 2 h.point_data_record_length (omega arith))

pub returns : goal.returns
unfolding old_goes
returns c =
    let h = c.args.header in
    rw (is (goal.at.returns c).Else-not-is_of, alone (goal.at.returns c).Else-is_beside, counts (goal.at.returns c).Else-not-counts_fit, le-leb 148 h.header_size (omega arith), le-leb 148 h.offset_to_point_data (omega arith), le-leb 2 h.point_data_record_length (omega arith))
