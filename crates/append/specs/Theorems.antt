-- What an append adds up to: document 02, No. 1, "An append I can repeat".
use Rattle.std.specs.Prelude.{Result, Ok}
use Rattle.refusal.specs.declared.Refused.{Refused}
use Rattle.std.specs.Prelude.{ℕ, ◌+◌, ◌*◌, ◌/◌, ◌≤◌, ◌<◌, ◌≡◌, Bool, cond, ◌↔◌, List, ltb, length, take}
use Rattle.std.proofs.Common.{sym, ap, subst, ◌∙◌, arith, le-ltb}
use Rattle.std.specs.Borrow.{Bor}
use Rattle.le.specs.Le.{Bytes}
use Rattle.fields.specs.Table.{All}
use Rattle.store.specs.Elsewhere.{Elsewhere}
use Rattle.header.specs.Judged.{header_in}
use Rattle.outline.specs.Outline.{outline_of}
use Rattle.file.specs.Rules.{checked_of}
use Rattle.file.specs.Points.{point_format}
use Rattle.offer.specs.declared.Sweep.{Sweep}
use Rattle.offer.specs.Offer.{record_length, end_in, sweep_of}
use Rattle.offer.specs.Laws.{Adds, Stands}
use Rattle.offer.specs.Sweeps.{sweep-at, sweep-bytes}
use Rattle.offer.specs.Tail.{same_offer}
use Rattle.sectors.specs.Sectors.{point_stores, stores_of, sector_of, stored_of, after_stores}
use Rattle.sectors.specs.Laws.{OneSector}
use Rattle.sectors.specs.After.{some_stores, stores_are, one_store, stored_touched, after_elsewhere, some_elsewhere, after_made, some_made}
use Rattle.append.specs.declared.Appended.{Appended}
use Rattle.append.specs.declared.Appended.TheVariants.{Added, AlreadyIn}
use Rattle.append.specs.Append.{appended_of}
use Rattle.append.specs.Adding.{none_in_12, enough, free_front, free_accepted}
use Rattle.append.specs.Final.{Bounds, Grown, full_is, full-grown}
use Rattle.append.specs.Again.{added_adds, adds_added, in_stands, stands_in, left_alone, same_answer, free_same, again_after, accepted-after}
use Rattle.append.specs.Points.{OldPoints, OldThenNew}
use Rattle.append.specs.Cut.{same_points, more_points}

module _ (allowance : ℕ) (records : List ℕ) (n : ℕ) (bounds : List ℕ) (believed : ℕ) where
  -- an append to a file: its answer, and the file that it leaves
  abbrev appended : List ℕ → Result Appended Refused × List ℕ
  appended s = appended_of allowance records n bounds believed s

  -- what the file's header says: the bytes of a record, where the points end, and what there is to store
  abbrev size : List ℕ → ℕ
  size s = record_length (header_in s)

  abbrev end : List ℕ → ℕ
  end s = end_in (header_in s)

  abbrev sweep : List ℕ → Sweep
  sweep s = sweep_of (header_in s) records n

  -- the file after the first k stores
  abbrev after : ℕ → List ℕ → List ℕ
  after k s = after_stores (sweep s) records bounds k s

  module _ (s : List ℕ) where
    -- "Count as believed: the records go after the points": exactly when the file is accepted and of version 1.2, n is not zero, the
    -- records are there, the count is as believed, no count passes 2^32 - 1, and there is room.
    pub added : ((appended s).0 ≡ (Ok Added)) ↔ Adds allowance records n believed s (sweep s)
    added = (added_adds allowance records n bounds believed s, λ d. ap (λ (x : Result Appended Refused × List ℕ). x.0) (adds_added allowance records n bounds believed s d))

    -- "Count higher by exactly n with those same bytes last: 'already in'": exactly then, of such records offered to such a file.
    pub already-in : ((appended s).0 ≡ (Ok AlreadyIn)) ↔ Stands allowance records n believed s
    already-in = (in_stands allowance records n bounds believed s, λ d. ap (λ (x : Result Appended Refused × List ℕ). x.0) (stands_in allowance records n bounds believed s d))

    -- "nothing written": where they are already in, and where they are refused, the file is as it was.
    pub untouched : ((appended s).0 ≡ (Ok Added) → ⊥) → (appended s).1 ≡ s
    untouched = left_alone allowance records n bounds believed s

    -- "Demand 2 reads the tail's bytes as free until counted": an accepted file of version 1.2, and another that differs only where the
    -- new records go, get the same answer, and where they are added both end the same.
    pub tail_free : {m : ℕ} → checked_of allowance s ≡ Ok m → (header_in s).version.minor ≡ 2 → (t : List ℕ) → Elsewhere (end s) (n * size s) s t → ((appended t).0 ≡ (appended s).0) × ((appended s).0 ≡ (Ok Added) → (appended t).1 ≡ (appended s).1)
    tail_free accepted two t same = (
      same_answer allowance records n bounds believed s t
          (same_offer allowance s t accepted (none_in_12 allowance s accepted two) same.long same.front records n believed),
      λ yes.
          let elsewhere : Elsewhere (sweep s).at (sweep s).bytes s t = rw (sweep-at, sweep-bytes) same in
          ap (λ (x : Result Appended Refused × List ℕ). x.1) (free_same allowance records n bounds believed s (sweep s) (added.0 yes) t elsewhere),
    )

  -- Where they are added; the bounds are six u64, as the type has it.
  module _ (s : List ℕ) (yes : (appended s).0 ≡ (Ok Added)) (six : Bounds bounds) where
    abbrev w : Sweep
    w = sweep s

    adds : Adds allowance records n believed s w
    adds = (added s).0 yes

    -- An append is all of its stores,
    pub all-stores : (appended s).1 ≡ after (stores_of w) s
    all-stores = ap (λ (x : Result Appended Refused × List ℕ). x.1) (adds_added allowance records n bounds believed s adds)

    -- after which "the records go after the points, then the header's count, the five counts by return (returns 0, 6 and 7 are counted
    -- nowhere) and the bounds change", and nothing else.
    pub final : Grown records n w bounds s (appended s).1
    final =
        subst (Grown records n w bounds s) (sym (all-stores ∙ full_is allowance records n believed s w adds bounds six (stores_of w) (omega arith)))
        (full-grown allowance records n believed s w adds bounds six)

    -- "Stores are whole 512-byte sectors (the last may be less): point sectors ascending, each with the old header, then sector 0 with
    -- the new": each store tells its sector and changes no other; before the last, all up to the end of the points is as it was.
    pub whole-sector : (k : ℕ) → k < stores_of w → let number = cond (ltb k (point_stores w)) (w.at / 512 + k) 0 in (stored_of w records bounds k (after k s) ≡ (sector_of number (length s), after (k + 1) s)) × OneSector number (after k s) (after (k + 1) s) × (k < point_stores w → take (end s) (after (k + 1) s) ≡ take (end s) s)
    whole-sector k h =
        let one = one_store w records bounds six.six (enough allowance records n believed s w adds) k s adds.room h in (
          one.0,
          one.1,
          λ point.
              let e = after_elsewhere w records bounds (k + 1) s (omega arith) in
              free_front allowance records n believed s w adds (after (k + 1) s) e.long e.front,
        )

    -- The point sectors are those that the new records touch, and no others.
    pub touched : (number : ℕ) → ((w.at / 512 ≤ number) × (number < w.at / 512 + point_stores w)) ↔ ((512 * number < w.at + w.bytes) × (w.at < 512 * number + 512))
    touched number = stored_touched w number

    -- "Cut after any store: the file is accepted", as it was before.
    pub cut : (k : ℕ) → checked_of allowance (after k s) ≡ checked_of allowance s
    cut k = accepted-after allowance records n bounds believed s w adds six k

    -- "and doing it again ends as if it had never been cut": added until the last store, already in from then on.
    pub again : (k : ℕ) → appended (after k s) ≡ (cond (ltb k (stores_of w)) (Ok Added) (Ok AlreadyIn), (appended s).1)
    again k = again_after allowance records n bounds believed s w adds six k

    -- So "the scanner must offer the last sweep again without harm": a second time it is already in, and nothing is written.
    pub repeated : appended (appended s).1 ≡ ((Ok AlreadyIn), (appended s).1)
    repeated =
        ap appended all-stores ∙ again (stores_of w)
        ∙ ap (λ (t : Bool). (cond t (Ok Added) (Ok AlreadyIn), (appended s).1)) (le-ltb (stores_of w) (stores_of w) (omega arith))

    -- It ends so whichever point stores happened, in whatever order and however often, as after many cuts.
    pub any_order : (ks : List ℕ) → All (λ (k : ℕ). k < point_stores w) ks → (checked_of allowance (some_stores w records bounds ks s) ≡ checked_of allowance s) × (appended (some_stores w records bounds ks s) ≡ appended s)
    any_order ks each =
        let t = some_stores w records bounds ks s in
        let e = some_elsewhere w records bounds ks s each in
        (free_accepted allowance records n believed s w adds t e.long e.front ∙ sym adds.proper.accepted, free_same allowance records n bounds believed s w adds t e)

  -- "with exactly the old points or exactly the old and the new", as the walker gives them; file and records are bytes, as the types
  -- have it.
  module _ (old : Bor (List ℕ)) (yes : (appended old.now).0 ≡ (Ok Added)) (file_bytes : Bytes old.now) (record_bytes_lem : Bytes records) (cut : Bor (List ℕ)) where
    abbrev v : Sweep
    v = sweep old.now

    joins : Adds allowance records n believed old.now v
    joins = (added old.now).0 yes

    -- Until the last store, and so after any point stores in any order, exactly the old points,
    pub cut-old : (k : ℕ) → k < stores_of v → cut.now ≡ after k old.now → OldPoints allowance believed old cut
    cut-old k h is =
        same_points allowance records n believed old v joins file_bytes cut (rw is (after_made v records bounds record_bytes_lem k old.now file_bytes))
        (rw is (after_elsewhere v records bounds k old.now (omega (arith, stores_are v))))

    pub any_order_old : (ks : List ℕ) → All (λ (k : ℕ). k < point_stores v) ks → cut.now ≡ some_stores v records bounds ks old.now → OldPoints allowance believed old cut
    any_order_old ks each is =
        same_points allowance records n believed old v joins file_bytes cut (rw is (some_made v records bounds record_bytes_lem ks old.now file_bytes))
        (rw is (some_elsewhere v records bounds ks old.now each))

    -- and after it exactly the old and the new.
    pub cut-new : Bounds bounds → (k : ℕ) → stores_of v ≤ k → cut.now ≡ after k old.now → OldThenNew allowance believed old cut (point_format (outline_of (header_in old.now))) (size old.now) records n
    cut-new six k h is =
        more_points allowance records n believed old v joins file_bytes cut (rw is (after_made v records bounds record_bytes_lem k old.now file_bytes)) bounds six
        (is ∙ full_is allowance records n believed old.now v joins bounds six k h)
