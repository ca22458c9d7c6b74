-- Laws of the stores: which sector each changes, and what stands there after some of them and after all.
use Rattle.std.specs.Prelude.{Option, Some, None, Result, Ok, Err}
use Rattle.sectors.specs.Sector.{sector_at, sector_same}
use Rattle.sectors.specs.declared.Sector.{Sector}
use Prim.Native.Nat.{ℕ, zero, suc, ◌+◌, ◌*◌, ◌-◌, ◌/◌, ◌≤◌, ◌<◌, min, max}
use Rattle.std.specs.Prelude.{◌≡◌, Bool, eqb}
use Rattle.std.proofs.Math.Path.{refl, ap}
use Rattle.std.proofs.Common.{sym, ◌∙◌, inl, le_refl, length-take-le}
use Rattle.std.proofs.Math.Bool.{true, false, cond}
use mathlib.Core.List.{List}
use Rattle.std.proofs.Math.Nat.{min-le_left, add-zero, add-suc, add-sub_cancel_left}
use Rattle.std.proofs.Math.Numerals.{add-one}
use native.Mathlib.Omega.{arith}
use borrow.Author.Tests.{lt-ltb, le-ltb, eq-eqb, ne_eqb, ltb-true, ltb-false}
use Rattle.std.proofs.Math.Dec.{ltb}
use Rattle.std.proofs.Math.ListN.{length, take, drop, length-take}
use Rattle.std.proofs.Math.Seq.{sets, length-sets}
use Rattle.refusal.specs.declared.Refusal.{Refusal}
use Rattle.refusal.specs.declared.Refusal.TheVariants.{Short, NoRoom}
use Rattle.refusal.specs.Table.{wanted_of}
use Rattle.store.specs.Parts.{drop_sets, part_sets, drop_past, sets_take, sets_same}
use Rattle.offer.specs.declared.Sweep.{Sweep}
use Rattle.sectors.specs.Sectors.{point_stores, stores_of, sector_of, with_records, with_header, step_of, stored_of, after_stores}
use Rattle.sectors.specs.Header.{length_header, drop_header}

-- the file t is s but for the sector of this number, which the file's end may cut
abbrev pub OneSector : ℕ → List ℕ → List ℕ → Type 0
OneSector number s t =
    (length t ≡ length s) × (take (512 * number) t ≡ take (512 * number) s) × (drop (512 * number + min 512 (length s - 512 * number)) t ≡ drop (512 * number + min 512 (length s - 512 * number)) s)

-- so it is where it stays before the sector and behind it
in_sector : (number : ℕ) (s t : List ℕ) → length t ≡ length s → take (512 * number) t ≡ take (512 * number) s → drop (512 * number + 512) t ≡ drop (512 * number + 512) s → OneSector number s t
in_sector number s t long front rest = (long, front, go (ltb (length s) (512 * number + 512)) refl)
  where
    go : (b : Bool) → ltb (length s) (512 * number + 512) ≡ b → drop (512 * number + min 512 (length s - 512 * number)) t ≡ drop (512 * number + min 512 (length s - 512 * number)) s
    go true e =
        drop_past (512 * number + min 512 (length s - 512 * number)) s t long (omega (arith, ltb-true (length s) (512 * number + 512) e))
    go false e =
        let whole : min 512 (length s - 512 * number) ≡ 512 = omega (arith, ltb-false (length s) (512 * number + 512) e) in
        rw whole rest

less_both : (x y z : ℕ) → x + y - (x + z) ≡ y - z
less_both x y z = omega arith

-- the records' bytes in a sector that begins at a: from where those before it end, up to where those in it end
piece : (at bytes a : ℕ) → a < at + bytes → at < a + 512 → (max at a ≡ at + min bytes (a - at)) × (min (at + bytes) (a + 512) - max at a ≡ min bytes (a + 512 - at) - min bytes (a - at)) × (max at a - at ≡ min bytes (a - at))
piece at bytes a starts ends =
    let from : max at a ≡ at + min bytes (a - at) = omega arith in
    let to : min (at + bytes) (a + 512) ≡ at + min bytes (a + 512 - at) = omega arith in
    (from, rw (to, from) (less_both at (min bytes (a + 512 - at)) (min bytes (a - at))), rw from (add-sub_cancel_left at (min bytes (a - at))))

module _ (w : Sweep) where
  -- the sector of a point store begins before the records' end and ends behind their first byte
  pub touched : (k : ℕ) → k < point_stores w → (512 * (w.at / 512 + k) < w.at + w.bytes) × (w.at < 512 * (w.at / 512 + k) + 512)
  unfolding point_stores
  touched k h = omega arith

  -- and the last of them reaches the records' end
  reached : w.at + w.bytes ≤ 512 * (w.at / 512 + point_stores w)
  unfolding point_stores
  reached = omega arith

  -- the records' bytes in one more sector, behind those in the sectors before it
  next_piece : (records : List ℕ) → w.bytes ≤ length records → (s : List ℕ) (k : ℕ) → k < point_stores w → with_records w records (w.at / 512 + k) (sets s w.at (take (min w.bytes (512 * (w.at / 512 + k) - w.at)) records)) ≡ sets s w.at (take (min w.bytes (512 * (w.at / 512 + suc k) - w.at)) records)
  unfolding with_records
  next_piece records there s k h =
      let a : ℕ = 512 * (w.at / 512 + k) in
      let next : 512 * (w.at / 512 + suc k) ≡ a + 512 = omega arith in
      let p : ℕ = min w.bytes (a - w.at) in
      let q : ℕ = min w.bytes (a + 512 - w.at) in
      let e = piece w.at w.bytes a (touched k h).0 (touched k h).1 in
      rw (next, e.1, e.2, e.0) (sets_take s records w.at p q (omega arith) (omega arith))

-- the answer of a store that is made
sector_is : {a l at len : ℕ} {d t : List ℕ} → ◌≡◌ {A = Result (Option Sector) Refusal × List ℕ} (Ok (Some (sector_at a l)), d) (Ok (Some (sector_at at len)), t) → (at ≡ a) × (len ≡ l) × (t ≡ d)
sector_is {a} {l} {at} {len} e =
    let q = sector_same (ap (λ (r : Result (Option Sector) Refusal × List ℕ). r.0) e) in
    (sym q.0, sym q.1, sym (ap (λ (r : Result (Option Sector) Refusal × List ℕ). r.1) e))

refused_none : {x : Refusal} {at len : ℕ} {d t : List ℕ} → ◌≡◌ {A = Result (Option Sector) Refusal × List ℕ} (Err x, d) (Ok (Some (sector_at at len)), t) → ⊥
refused_none {x} {at} {len} e =
    let q : Err x ≡ Ok (Some (sector_at at len)) = ap (λ (r : Result (Option Sector) Refusal × List ℕ). r.0) e in
    let z : ◌≡◌ {A = ℕ} 0 1 = cc in
    omega arith

done_none : {at len : ℕ} {d t : List ℕ} → ◌≡◌ {A = Result (Option Sector) Refusal × List ℕ} ((Ok None), d) (Ok (Some (sector_at at len)), t) → ⊥
done_none {at} {len} e =
    let q : (Ok None) ≡ Ok (Some (sector_at at len)) = ap (λ (r : Result (Option Sector) Refusal × List ℕ). r.0) e in
    let z : ◌≡◌ {A = ℕ} 0 1 = cc in
    omega arith

module _ (w : Sweep) (records bounds : List ℕ) where
  -- what a store answers and leaves, by its tests
  abbrev told : ℕ → List ℕ → Bool → Bool → Bool → Bool → Result (Option Sector) Refusal × List ℕ
  told k s short over point last =
      cond short (Err (Short w.bytes), s)
      (cond over (Err (NoRoom (wanted_of (w.at + w.bytes))), s)
      (cond point (sector_of (w.at / 512 + k) (length s), with_records w records (w.at / 512 + k) s)
      (cond last (sector_of 0 (length s), with_header w bounds s) ((Ok None), s))))

  pub stored-length : (k : ℕ) (s : List ℕ) → length (stored_of w records bounds k s).1 ≡ length s
  unfolding stored_of step_of with_records
  stored-length k s = go (ltb (length records) w.bytes) (ltb (length s) (w.at + w.bytes)) (ltb k (point_stores w)) (eqb k (point_stores w))
    where
      go : (short over point last : Bool) → length (told k s short over point last).1 ≡ length s
      go true over point last = refl
      go false true point last = refl
      go false false true last = simp length-sets
      go false false false true = length_header w bounds s
      go false false false false = refl

  pub after-length : (k : ℕ) (s : List ℕ) → length (after_stores w records bounds k s) ≡ length s
  unfolding after_stores
  after-length zero s = refl
  after-length (suc k) s = stored-length k (after_stores w records bounds k s) ∙ after-length k s

  -- the file after no store, and after one more
  pub after_none : (s : List ℕ) → after_stores w records bounds 0 s ≡ s
  unfolding after_stores
  after_none s = refl

  pub after_next : (k : ℕ) (s : List ℕ) → after_stores w records bounds (k + 1) s ≡ (stored_of w records bounds k (after_stores w records bounds k s)).1
  unfolding after_stores
  after_next k s = rw add-one

  -- what a store of records changes lies in its sector
  records_sector : (number : ℕ) (s : List ℕ) → w.at < 512 * number + 512 → OneSector number s (with_records w records number s)
  unfolding with_records
  records_sector number s ends =
      let from : ℕ = max w.at (512 * number) in
      let to : ℕ = min (w.at + w.bytes) (512 * number + 512) in
      let v : List ℕ = take (to - from) (drop (from - w.at) records) in
      let long : length v ≤ to - from = rw length-take (min-le_left _ _) in
      in_sector number s (sets s from v) (length-sets s from v) (part_sets (512 * number) 0 v s from (inl (omega arith))) (drop_sets (512 * number + 512) v s from (omega arith))

  module _ (six : length bounds ≡ 6) where
    -- and what the last one changes in sector 0
    header_sector : (s : List ℕ) → OneSector 0 s (with_header w bounds s)
    header_sector s = in_sector 0 s (with_header w bounds s) (length_header w bounds s) refl (drop_header w bounds six 512 s (omega arith))

    -- a store that is made changes one sector: the k-th that the records touch, and after these sector 0
    pub whole-sector : (k at len : ℕ) (s t : List ℕ) → stored_of w records bounds k s ≡ (Ok (Some (sector_at at len)), t) → (length t ≡ length s) × (take at t ≡ take at s) × (drop (at + len) t ≡ drop (at + len) s) × (at ≡ cond (ltb k (point_stores w)) (512 * (w.at / 512 + k)) 0) × (len ≡ min 512 (length s - at))
    unfolding stored_of step_of
    whole-sector k at len s t e =
        go (ltb (length records) w.bytes) (ltb (length s) (w.at + w.bytes)) (ltb k (point_stores w)) (eqb k (point_stores w)) refl e
      where
        go : (short over point last : Bool) → ltb k (point_stores w) ≡ point → told k s short over point last ≡ (Ok (Some (sector_at at len)), t) → (length t ≡ length s) × (take at t ≡ take at s) × (drop (at + len) t ≡ drop (at + len) s) × (at ≡ cond (ltb k (point_stores w)) (512 * (w.at / 512 + k)) 0) × (len ≡ min 512 (length s - at))
        go true over point last x e = absurd (refused_none e)
        go false true point last x e = absurd (refused_none e)
        go false false true last x e =
            let same = sector_is e in
            let one = records_sector (w.at / 512 + k) s (touched w k (ltb-true _ _ x)).1 in
            rw (same.0, same.1, same.2, x) (one.0, one.1, one.2, refl, refl)
        go false false false true x e =
            let same = sector_is e in
            let one = header_sector s in
            rw (same.0, same.1, same.2, x) (one.0, one.1, one.2, refl, refl)
        go false false false false x e = absurd (done_none e)

  -- refused: the records are not there
  pub short-store : (k : ℕ) (s : List ℕ) → length records < w.bytes → stored_of w records bounds k s ≡ (Err (Short w.bytes), s)
  unfolding stored_of
  short-store k s h = rw (lt-ltb _ _ h)

  module _ (there : w.bytes ≤ length records) where
    -- or have no place
    pub beyond-store : (k : ℕ) (s : List ℕ) → length s < w.at + w.bytes → stored_of w records bounds k s ≡ (Err (NoRoom (wanted_of (w.at + w.bytes))), s)
    unfolding stored_of
    beyond-store k s h = rw (le-ltb _ _ there, lt-ltb _ _ h)

    -- what each store answers and leaves, where the records are there and have their place
    module _ (s : List ℕ) (room : w.at + w.bytes ≤ length s) where
      not-refused : (k : ℕ) → stored_of w records bounds k s ≡ step_of w records bounds k s
      unfolding stored_of
      not-refused k = rw (le-ltb _ _ there, le-ltb _ _ room)

      pub point_store : (k : ℕ) → k < point_stores w → stored_of w records bounds k s ≡ (sector_of (w.at / 512 + k) (length s), with_records w records (w.at / 512 + k) s)
      unfolding step_of
      point_store k h = not-refused k ∙ rw (lt-ltb _ _ h)

      pub header_store : stored_of w records bounds (point_stores w) s ≡ (sector_of 0 (length s), with_header w bounds s)
      unfolding step_of
      header_store =
          not-refused (point_stores w) ∙ rw (le-ltb (point_stores w) (point_stores w) (le_refl (point_stores w)), eq-eqb (point_stores w) (point_stores w) refl)

      pub no_store : (k : ℕ) → point_stores w < k → stored_of w records bounds k s ≡ ((Ok None), s)
      unfolding step_of
      no_store k h =
          let past : point_stores w ≤ k = omega arith in
          let other : k ≡ point_stores w → ⊥ = omega arith in
          not-refused k ∙ rw (le-ltb _ _ past, ne_eqb _ _ other)

    module _ (s : List ℕ) (room : w.at + w.bytes ≤ length s) where
      -- after k point stores the records stand there up to the end of the last one's sector
      pub prefix : (k : ℕ) → k ≤ point_stores w → after_stores w records bounds k s ≡ sets s w.at (take (min w.bytes (512 * (w.at / 512 + k) - w.at)) records)
      unfolding after_stores
      prefix zero h =
          let none : min w.bytes (512 * (w.at / 512 + 0) - w.at) ≡ 0 = omega arith in
          rw none
      prefix (suc k) h =
          let d : List ℕ = sets s w.at (take (min w.bytes (512 * (w.at / 512 + k) - w.at)) records) in
          let fits : w.at + w.bytes ≤ length d = rw length-sets room in
          ap (λ (x : List ℕ). (stored_of w records bounds k x).1) (prefix k (omega arith))
          ∙ ap (λ (r : Result (Option Sector) Refusal × List ℕ). r.1) (point_store d fits k h)
          ∙ next_piece w records there s k h

      -- after all of them all records
      pub all-points : after_stores w records bounds (point_stores w) s ≡ sets s w.at (take w.bytes records)
      all-points =
          let all : min w.bytes (512 * (w.at / 512 + point_stores w) - w.at) ≡ w.bytes = omega (arith, reached w) in
          prefix (point_stores w) (le_refl (point_stores w)) ∙ rw all

      -- and with the last store the header's counts and bounds
      pub all-stores : after_stores w records bounds (stores_of w) s ≡ with_header w bounds (sets s w.at (take w.bytes records))
      unfolding stores_of
      all-stores =
          let d : List ℕ = sets s w.at (take w.bytes records) in
          let fits : w.at + w.bytes ≤ length d = rw length-sets room in
          after_next (point_stores w) s
          ∙ ap (λ (x : List ℕ). (stored_of w records bounds (point_stores w) x).1) all-points
          ∙ ap (λ (r : Result (Option Sector) Refusal × List ℕ). r.1) (header_store d fits)

      -- past the last store nothing changes
      pub no_more : (k : ℕ) → after_stores w records bounds (stores_of w + k) s ≡ after_stores w records bounds (stores_of w) s
      unfolding stores_of after_stores
      no_more zero = rw add-zero
      no_more (suc k) =
          let d : List ℕ = after_stores w records bounds (stores_of w) s in
          let fits : w.at + w.bytes ≤ length d = omega (arith, after-length (stores_of w) s) in
          rw add-suc
          (ap (λ (x : List ℕ). (stored_of w records bounds (stores_of w + k) x).1) (no_more k)
          ∙ ap (λ (r : Result (Option Sector) Refusal × List ℕ). r.1) (no_store d fits (stores_of w + k) (omega arith)))

    -- whatever stands where the records go, all stores end the same
    pub tail_free : (s : List ℕ) → w.at + w.bytes ≤ length s → (t : List ℕ) → length t ≡ length s → take w.at t ≡ take w.at s → drop (w.at + w.bytes) t ≡ drop (w.at + w.bytes) s → after_stores w records bounds (stores_of w) t ≡ after_stores w records bounds (stores_of w) s
    tail_free s room t l front rest =
        let fits : w.at + w.bytes ≤ length t = omega arith in
        let all : length (take w.bytes records) ≡ w.bytes = length-take-le w.bytes records there in
        all-stores t fits
        ∙ ap (with_header w bounds) (sets_same s t (take w.bytes records) w.at (omega arith) l front (rw all rest))
        ∙ sym (all-stores s room)
