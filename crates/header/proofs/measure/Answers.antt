use Prim.Native.Nat.{ℕ}
use mathlib.Core.Path.{◌≡◌, sym}
use mathlib.Core.Bool.{Bool}
use mathlib.Core.List.{List}
use lib.Dec.{eqb}
use lib.ListN.{take}
use borrow.Author.Tests.{le-ltb}
use borrow.Author.Rules.{rules}
use Rattle.std.specs.Cmp.Lexicographic.{pointwise}
use Rattle.std.proofs.lemmas.Bool.Decides.{Decides-eqb}
use Rattle.std.proofs.lemmas.Slice.Eq.{slice_eq-Decides}
use Rattle.refusal.proofs.Tests.{tests}
use Rattle.header.specs.Header.{lasf}
use Rattle.header.specs.Judged.{eq_list, judged}
use Rattle.header.proofs.Text.{decided}
use Rattle.header.proofs.measure.Goals as goal

-- the slice's own test is whether its first four bytes are the signature
signed : (s : List ℕ) (b : Bool) → b ≡ pointwise eqb lasf (take 4 s) → b ≡ eq_list (take 4 s) lasf
signed s b e =
    let d = slice_eq-Decides Decides-eqb lasf (take 4 s) b e in
    decided b (take 4 s) lasf (λ t. sym (d.0 t)) (λ same. d.1 (sym same))

pub returns-then-s-lt4 : goal.returns-then-s-lt4
unfolding judged
returns-then-s-lt4 c = search tests

pub returns-then-starts_with : goal.returns-then-starts_with
unfolding judged
returns-then-starts_with c =
    rw (le-ltb _ _ c.if-s-lt4.false, ← signed c.args.s.now c.starts_with.result c.starts_with.ensures.value, c.if-starts_with.true) c.judge_version.ensures

pub returns : goal.returns
unfolding judged
returns c =
    rw (le-ltb _ _ c.if-s-lt4.false, ← signed c.args.s.now c.starts_with.result c.starts_with.ensures.value, c.if-starts_with.false, ← c.u32_at.ensures)
