use Rattle.std.specs.Prelude.{Err}
use Prim.Native.Nat.{ℕ, ◌+◌, ◌≤◌, ◌<◌, ◌^◌}
use mathlib.Core.Path.{◌≡◌, ap, sym, ◌∙◌}
use native.Mathlib.Omega.{arith}
use borrow.Author.Rules.{rules}
use lib.ListN.{length}
use Rattle.refusal.specs.declared.Refusal.TheVariants.{NoRoom}
use Rattle.sectors.specs.Sectors.{point_stores, sector_of, stored_of}
use Rattle.sectors.specs.Header.{length_header}
use Rattle.sectors.specs.Laws.{touched, short-store, beyond-store, point_store, header_store, no_store}
use Rattle.sectors.proofs.store.Goals as goal
use Rattle.sectors.proofs.store.Goals.{After-point_stores-points, Else-room-sweep-2, Start, Then-k-points}

pub returns-then-records-sweep : goal.returns-then-records-sweep
returns-then-records-sweep c =
    let a = c.args in
    sym (short-store a.sweep a.records.now a.bounds a.k a.file.now c.if-records-sweep.true)

pub returns-then-room-sweep : goal.returns-then-room-sweep
returns-then-room-sweep c =
    let a = c.args in
    (λ i. (Err (NoRoom (c.end_wanted.ensures i)), a.file.now))
    ∙ sym (beyond-store a.sweep a.records.now a.bounds c.if-records-sweep.false a.k a.file.now (omega (arith, c.if-room-sweep.true)))

pub returns-then-room-sweep-2 : goal.returns-then-room-sweep-2
returns-then-room-sweep-2 c =
    let a = c.args in
    (λ i. (Err (NoRoom (c.end_wanted-then-room-sweep-2.ensures i)), a.file.now))
    ∙ sym (beyond-store a.sweep a.records.now a.bounds c.if-records-sweep.false a.k a.file.now (omega (arith, c.if-room-sweep.false, c.if-room-sweep-2.true)))

-- past the refusals the records are there and have their place
module _ (p : After-point_stores-points) where
  abbrev past : Else-room-sweep-2
  past = (goal.at.After-point_stores-points p).Else-room-sweep-2

  abbrev begun : Start
  begun = (goal.at.Else-room-sweep-2 past).Start

  abbrev points : ℕ
  points = point_stores begun.args.sweep

  there : begun.args.sweep.bytes ≤ length begun.args.records.now
  there = past.if-records-sweep.false

  room : begun.args.sweep.at + begun.args.sweep.bytes ≤ length begun.args.file.now
  room = omega (arith, past.if-room-sweep.false, past.if-room-sweep-2.false)

before_last : (c : Then-k-points) → (begun (goal.at.Then-k-points c).After-point_stores-points).args.k < points (goal.at.Then-k-points c).After-point_stores-points
before_last c = omega (arith, c.if-k-points.true, c.point_stores-points.ensures)

pub overflow_add-sweep : goal.overflow_add-sweep
unfolding point_stores
overflow_add-sweep c =
    let w = (begun (goal.at.overflow_add-sweep c).After-point_stores-points).args.sweep in
    let fits : (w.at < 2 ^ 64) × (w.bytes < 2 ^ 64) = search rules in
    omega (arith, before_last (goal.at.overflow_add-sweep c).Then-k-points)

pub store_records-requires : goal.store_records-requires
store_records-requires c =
    let in-it = touched (begun (goal.at.store_records-requires c).After-point_stores-points).args.sweep (begun (goal.at.store_records-requires c).After-point_stores-points).args.k (before_last (goal.at.store_records-requires c).Then-k-points) in
    (there (goal.at.store_records-requires c).After-point_stores-points, room (goal.at.store_records-requires c).After-point_stores-points, in-it.0, in-it.1)

pub returns-then-k-points : goal.returns-then-k-points
returns-then-k-points c =
    let a = (begun (goal.at.returns-then-k-points c).After-point_stores-points).args in
    (λ i. (c.store_records.ensures.0 i, c.store_records.ensures.1 i))
    ∙ sym (point_store a.sweep a.records.now a.bounds (there (goal.at.returns-then-k-points c).After-point_stores-points) a.file.now (room (goal.at.returns-then-k-points c).After-point_stores-points) a.k (before_last (goal.at.returns-then-k-points c).Then-k-points))

pub returns-then-k-points-2 : goal.returns-then-k-points-2
returns-then-k-points-2 c =
    let a = (begun (goal.at.returns-then-k-points-2 c).After-point_stores-points).args in
    let last : a.k ≡ points (goal.at.returns-then-k-points-2 c).After-point_stores-points = c.if-k-points-2.true ∙ c.point_stores-points.ensures in
    let same = ap length c.store_header.ensures ∙ length_header a.sweep a.bounds a.file.now in
    let first : c.sector_from.result ≡ sector_of 0 (length a.file.now) = c.sector_from.ensures ∙ ap (sector_of 0) same in
    (λ i. (first i, c.store_header.ensures i))
    ∙ sym (ap (λ (k : ℕ). stored_of a.sweep a.records.now a.bounds k a.file.now) last ∙ header_store a.sweep a.records.now a.bounds (there (goal.at.returns-then-k-points-2 c).After-point_stores-points) a.file.now (room (goal.at.returns-then-k-points-2 c).After-point_stores-points))

pub returns : goal.returns
returns c =
    let a = (begun (goal.at.returns c).After-point_stores-points).args in
    let over : points (goal.at.returns c).After-point_stores-points < a.k = omega (arith, c.point_stores-points.ensures, c.if-k-points.false, c.if-k-points-2.false) in
    sym (no_store a.sweep a.records.now a.bounds (there (goal.at.returns c).After-point_stores-points) a.file.now (room (goal.at.returns c).After-point_stores-points) a.k over)
