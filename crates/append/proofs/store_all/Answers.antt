use Rattle.std.specs.Prelude.{Option, Result}
use Rattle.sectors.specs.declared.Sector.{Sector}
use Rattle.refusal.specs.declared.Refusal.{Refusal}
use Prim.Native.Nat.{ℕ}
use mathlib.Core.Path.{◌≡◌, ap, sym, ◌∙◌}
use mathlib.Core.List.{List}
use native.Mathlib.Omega.{arith}
use lib.ListN.{length}
use Rattle.sectors.specs.Sectors.{stores_of, stored_of, after_stores}
use Rattle.sectors.specs.Laws.{after-length, after_none, after_next}
use Rattle.append.proofs.store_all.Goals as goal

pub loop-k-init : goal.loop-k-init
loop-k-init c =
    let a = c.args in
    (sym (after_none a.sweep a.records.now a.bounds a.file.now), omega arith)

pub loop-k-preserved : goal.loop-k-preserved
loop-k-preserved c =
    let r = c.store in
    let l = c.loop-k in
    let a = c.args in (
      ap (λ (p : Result (Option Sector) Refusal × List ℕ). p.1) r.ensures
          ∙ ap (λ (s : List ℕ). (stored_of a.sweep a.records.now a.bounds l.k s).1) l.invariant.0
          ∙ sym (after_next a.sweep a.records.now a.bounds l.k a.file.now),
      omega arith,
    )

pub shape_of-file : goal.shape_of-file
shape_of-file c =
    let l = c.loop-k in
    let a = c.args in
    ap length l.invariant.0 ∙ after-length a.sweep a.records.now a.bounds l.k a.file.now

pub returns : goal.returns
returns c =
    let l = c.loop-k in
    let n = c.stores-k-end in
    let a = c.args in
    let all : l.k ≡ stores_of a.sweep = omega (arith, n.ensures) in
    l.invariant.0 ∙ ap (λ (k : ℕ). after_stores a.sweep a.records.now a.bounds k a.file.now) all
