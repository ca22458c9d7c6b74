use Rattle.std.specs.Prelude.{Option}
use Rattle.first_vlr.specs.declared.Span.{Span}
use Prim.Native.Nat.{ℕ, ◌+◌, ◌-◌, ◌≤◌}
use mathlib.Core.Path.{◌≡◌, ap, sym, ◌∙◌}
use mathlib.Core.List.{List}
use native.Mathlib.Omega.{arith}
use lib.ListN.{length, take, drop}
use Rattle.first_vlr.specs.First.{first_of}
use Rattle.first_vlr.specs.Laws.{found_within}
use Rattle.attribute.specs.Attributes.{lasf_spec, begun_by, begun_in, described_in}
use Rattle.attribute.proofs.begin_in.Goals as goal
use Rattle.attribute.proofs.begin_in.Goals.{After-first, In-Some}

-- what was found, and by it the answer
module _ (m : After-first) where
  abbrev s : List ℕ
  s = m.args.file.now

  told : {x : Option Span} → m.first.result ≡ x → first_of m.args.o lasf_spec 4 s ≡ x
  told is = sym m.first.ensures ∙ is

  by : {x : Option Span} → m.first.result ≡ x → begun_by m.args.o s x ≡ begun_in m.args.o s
  unfolding begun_in
  by is = ap (begun_by m.args.o s) (sym (told is))

-- it lies in the file
within : (k : In-Some) → k.in-Some.span.start + k.in-Some.span.length ≤ length (s (goal.at.In-Some k).After-first)
within k = found_within k.args.o lasf_spec 4 (s (goal.at.In-Some k).After-first) (told (goal.at.In-Some k).After-first k.in-Some.is)

pub returns : goal.returns
returns c =
    let start = c.in-Some.span.start in
    let n = c.in-Some.span.length in
    let long : start + n - start ≡ n = omega arith in
    c.judge.ensures ∙ ap (λ (j : ℕ). described_in c.args.o start (take j (drop start (s (goal.at.returns c).After-first)))) long ∙ by (goal.at.returns c).After-first c.in-Some.is

pub returns-in_default : goal.returns-in_default
returns-in_default c = rw c.into.ensures (by (goal.at.returns-in_default c).After-first c.in_default.is)

pub overflow_add-span : goal.overflow_add-span
overflow_add-span c = omega (arith, within (goal.at.overflow_add-span c).In-Some)

pub slice_bounds-judge-end : goal.slice_bounds-judge-end
slice_bounds-judge-end c = omega (arith, within (goal.at.slice_bounds-judge-end c).In-Some)
