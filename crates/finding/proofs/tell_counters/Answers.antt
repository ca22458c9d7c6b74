use Prim.Native.Nat.{ℕ}
use mathlib.Core.Path.{◌≡◌, ap, sym, ◌∙◌}
use mathlib.Core.Bool.{Bool, cond}
use mathlib.Core.List.{List, [], ◌++◌}
use lib.Dec.{eqb}
use Rattle.std.proofs.lemmas.Bool.{ne_eqb}
use Rattle.finding.specs.declared.Finding.{Finding}
use Rattle.finding.specs.Rules.{legacy_first, legacies, larges, is_large, counters}
use Rattle.finding.specs.Told.{told, told_none, both}
use Rattle.finding.proofs.tell_counters.Goals as goal
use Rattle.finding.proofs.tell_counters.Goals.{After-tell_legacies-n, After-tell_legacy_first-n, After-u8_at-large, Start}

-- what is told once the legacy counters are, of the rest
module _ (x : After-tell_legacies-n) where
  abbrev f : After-tell_legacy_first-n
  f = (goal.at.After-tell_legacies-n x).After-tell_legacy_first-n

  abbrev version : After-u8_at-large
  version = (goal.at.After-tell_legacy_first-n f).After-u8_at-large

  abbrev a : Start
  a = (goal.at.After-u8_at-large version).Start

  abbrev large : Bool
  large = eqb version.u8_at-large.result 4

  abbrev last : List Finding
  last = cond large (larges a.args.file.now a.args.numbers.now a.args.part) []

  all : {r : ℕ} {b : List ℕ} → (r, b) ≡ told last (x.tell_legacies-n.result, x.tell_legacies-n.new.out) → (r, b) ≡ told (counters a.args.file.now a.args.extended a.args.numbers.now a.args.part) (a.args.n, a.args.out.now)
  unfolding counters is_large
  all p =
      let s = a.args.file.now in
      let first = legacy_first s a.args.extended large a.args.part in
      let five = legacies s a.args.extended large a.args.numbers.now a.args.part in
      both first (five ++ last) a.args.n a.args.out.now f.tell_legacy_first-n.ensures (both five last _ _ x.tell_legacies-n.ensures p)
      ∙ ap (λ (b : Bool). told (legacy_first s a.args.extended b a.args.part ++ (legacies s a.args.extended b a.args.numbers.now a.args.part ++ cond b (larges s a.args.numbers.now a.args.part) [])) (a.args.n, a.args.out.now))
      (ap (λ (k : ℕ). eqb k 4) version.u8_at-large.ensures)

pub returns-then-not-large : goal.returns-then-not-large
returns-then-not-large c =
    let w : ℕ × List ℕ = (c.tell_legacies-n.result, c.tell_legacies-n.new.out) in
    all (goal.at.returns-then-not-large c).After-tell_legacies-n (sym (told_none w) ∙ ap (λ (b : Bool). told (cond b (larges (a (goal.at.returns-then-not-large c).After-tell_legacies-n).args.file.now (a (goal.at.returns-then-not-large c).After-tell_legacies-n).args.numbers.now (a (goal.at.returns-then-not-large c).After-tell_legacies-n).args.part) []) w) (sym (ne_eqb _ _ c.if-not-large.true)))

pub returns : goal.returns
returns c =
    let w : ℕ × List ℕ = (c.tell_legacies-n.result, c.tell_legacies-n.new.out) in
    all (goal.at.returns c).After-tell_legacies-n (c.tell_larges.ensures ∙ ap (λ (b : Bool). told (cond b (larges (a (goal.at.returns c).After-tell_legacies-n).args.file.now (a (goal.at.returns c).After-tell_legacies-n).args.numbers.now (a (goal.at.returns c).After-tell_legacies-n).args.part) []) w) (sym (ap (λ (k : ℕ). eqb k 4) c.if-not-large.false)))
