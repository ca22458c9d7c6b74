use Rattle.std.specs.Prelude.{Ok}
use Prim.Native.Nat.{◌+◌, ◌*◌, ◌≤◌}
use mathlib.Core.Path.{◌≡◌, sym, ap, ◌∙◌}
use mathlib.Core.Bool.{Bool, true}
use native.Mathlib.Omega.{arith}
use lib.ListN.{length}
use Rattle.directory.specs.declared.Question.{Question}
use Rattle.directory.specs.declared.Question.TheVariants.{Rising, Known, There, Within}
use Rattle.directory.specs.Directory.{count_of, passes, every}
use Rattle.directory.specs.Laws.{all, then_short, then_falling, then_unknown, then_absent, then_beyond, then_sound}
use Rattle.directory.proofs.judge.Goals as goal
use Rattle.directory.proofs.judge.Goals.{After-u16_at-n, Else-directory-n, Else-not-all_pass, Else-not-all_pass-2, Else-not-all_pass-3, Start}

module _ (m : After-u16_at-n) where
  abbrev a : Start
  a = (goal.at.After-u16_at-n m).Start

  abbrev asked : Question → Bool
  asked q = all a.args.directory.now a.args.doubles a.args.text q

  -- what was asked of as many entries as the directory counts
  told : (q : Question) {r b : Bool} → r ≡ every (passes q a.args.doubles a.args.text a.args.directory.now) m.u16_at-n.result → r ≡ b → asked q ≡ b
  told q e is = ap (every (passes q a.args.doubles a.args.text a.args.directory.now)) (sym m.u16_at-n.ensures) ∙ sym e ∙ is

long : (x : Else-directory-n) → (let d = (a (goal.at.Else-directory-n x).After-u16_at-n).args.directory.now in 8 + 8 * count_of d ≤ length d)
long x = omega (arith, x.if-directory-n.false, x.u16_at-n.ensures)

rising : (x : Else-not-all_pass) → asked (goal.at.Else-not-all_pass x).After-u16_at-n Rising ≡ true
rising x = told (goal.at.Else-not-all_pass x).After-u16_at-n Rising x.all_pass.ensures x.if-not-all_pass.false

known : (x : Else-not-all_pass-2) → asked (goal.at.Else-not-all_pass-2 x).After-u16_at-n Known ≡ true
known x = told (goal.at.Else-not-all_pass-2 x).After-u16_at-n Known x.all_pass-2.ensures x.if-not-all_pass-2.false

there : (x : Else-not-all_pass-3) → asked (goal.at.Else-not-all_pass-3 x).After-u16_at-n There ≡ true
there x = told (goal.at.Else-not-all_pass-3 x).After-u16_at-n There x.all_pass-3.ensures x.if-not-all_pass-3.false

pub returns-then-directory-n : goal.returns-then-directory-n
returns-then-directory-n c = let g = (a (goal.at.returns-then-directory-n c).After-u16_at-n).args in sym (then_short g.directory.now g.doubles g.text (omega (arith, c.if-directory-n.true, c.u16_at-n.ensures)))

pub returns-then-not-all_pass : goal.returns-then-not-all_pass
returns-then-not-all_pass c =
    let g = (a (goal.at.returns-then-not-all_pass c).After-u16_at-n).args in
    sym (then_falling g.directory.now g.doubles g.text (long (goal.at.returns-then-not-all_pass c).Else-directory-n) (told (goal.at.returns-then-not-all_pass c).After-u16_at-n Rising c.all_pass.ensures c.if-not-all_pass.true))

pub returns-then-not-all_pass-2 : goal.returns-then-not-all_pass-2
returns-then-not-all_pass-2 c =
    let g = (a (goal.at.returns-then-not-all_pass-2 c).After-u16_at-n).args in
    sym (then_unknown g.directory.now g.doubles g.text (long (goal.at.returns-then-not-all_pass-2 c).Else-directory-n) (rising (goal.at.returns-then-not-all_pass-2 c).Else-not-all_pass) (told (goal.at.returns-then-not-all_pass-2 c).After-u16_at-n Known c.all_pass-2.ensures c.if-not-all_pass-2.true))

pub returns-then-not-all_pass-3 : goal.returns-then-not-all_pass-3
returns-then-not-all_pass-3 c =
    let g = (a (goal.at.returns-then-not-all_pass-3 c).After-u16_at-n).args in
    sym (then_absent g.directory.now g.doubles g.text (long (goal.at.returns-then-not-all_pass-3 c).Else-directory-n) (rising (goal.at.returns-then-not-all_pass-3 c).Else-not-all_pass) (known (goal.at.returns-then-not-all_pass-3 c).Else-not-all_pass-2) (told (goal.at.returns-then-not-all_pass-3 c).After-u16_at-n There c.all_pass-3.ensures c.if-not-all_pass-3.true))

pub returns-then-not-all_pass-4 : goal.returns-then-not-all_pass-4
returns-then-not-all_pass-4 c =
    let g = (a (goal.at.returns-then-not-all_pass-4 c).After-u16_at-n).args in
    sym (then_beyond g.directory.now g.doubles g.text (long (goal.at.returns-then-not-all_pass-4 c).Else-directory-n) (rising (goal.at.returns-then-not-all_pass-4 c).Else-not-all_pass) (known (goal.at.returns-then-not-all_pass-4 c).Else-not-all_pass-2) (there (goal.at.returns-then-not-all_pass-4 c).Else-not-all_pass-3) (told (goal.at.returns-then-not-all_pass-4 c).After-u16_at-n Within c.all_pass-4.ensures c.if-not-all_pass-4.true))

pub returns : goal.returns
returns c =
    let g = (a (goal.at.returns c).After-u16_at-n).args in
    ap Ok c.u16_at-n.ensures
    ∙ sym (then_sound g.directory.now g.doubles g.text (long (goal.at.returns c).Else-directory-n) (rising (goal.at.returns c).Else-not-all_pass) (known (goal.at.returns c).Else-not-all_pass-2) (there (goal.at.returns c).Else-not-all_pass-3) (told (goal.at.returns c).After-u16_at-n Within c.all_pass-4.ensures c.if-not-all_pass-4.false))
