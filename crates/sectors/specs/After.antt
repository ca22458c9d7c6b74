-- Which sectors are stored, what point stores leave in whatever order, and that a file of bytes stays one.
use Rattle.std.specs.Prelude.{Option, Result}
use Rattle.sectors.specs.declared.Sector.{Sector}
use Rattle.refusal.specs.declared.Refusal.{Refusal}
use Prim.Native.Nat.{ℕ, zero, suc, ◌+◌, ◌-◌, ◌*◌, ◌/◌, ◌≤◌, ◌<◌, min, max}
use Rattle.std.specs.Prelude.{◌≡◌, Bool, cond, ◌↔◌, ltb, eqb, set, drop}
use Rattle.std.proofs.Math.Path.{refl}
use Rattle.std.proofs.Common.{sym, ap, ◌∙◌, inl, arith, ltb-true, ltb-false, eqb-true}
use Rattle.std.proofs.Math.Bool.{true, false}
use mathlib.Core.List.{List, [], ◌∷◌}
use Rattle.std.proofs.Math.Nat.{min-le_left}
use Rattle.std.proofs.Math.ListN.{length, take, length-take}
use Rattle.std.proofs.lemmas.List.Edits.{sets}
use Rattle.std.proofs.Math.Seq.{length-sets}
use Rattle.le.specs.Le.{bytes, Bytes}
use Rattle.le.specs.Laws.{bytes_take, bytes_drop}
use Rattle.le.specs.Made.{none_made, both_made, number_made, set_made}
use Rattle.fields.specs.Table.{joined, All, none, ◌&◌}
use Rattle.store.specs.Parts.{drop_sets, part_sets}
use Rattle.store.specs.Elsewhere.{Elsewhere, nowhere, then_elsewhere}
use Rattle.offer.specs.declared.Sweep.{Sweep}
use Rattle.sectors.specs.Sectors.{point_stores, stores_of, sector_of, with_records, by_return_of, with_header, step_of, stored_of, after_stores}
use Rattle.sectors.specs.Laws.{OneSector, touched, after-length, after_next, whole-sector, point_store, header_store}

pub stores_are : (w : Sweep) → stores_of w ≡ point_stores w + 1
unfolding stores_of
stores_are w = refl

-- the point stores are of the sectors that the records touch, and of no others
pub stored_touched : (w : Sweep) (number : ℕ) → ((w.at / 512 ≤ number) × (number < w.at / 512 + point_stores w)) ↔ ((512 * number < w.at + w.bytes) × (w.at < 512 * number + 512))
unfolding point_stores
stored_touched w number = (λ stored. (omega arith, omega arith), λ touched. (omega arith, omega arith))

-- the file after stores of these numbers, one after the other
abbrev pub some_stores : Sweep → List ℕ → List ℕ → List ℕ → List ℕ → List ℕ
some_stores w records bounds [] s = s
some_stores w records bounds (k ∷ ks) s = some_stores w records bounds ks (stored_of w records bounds k s).1

-- bytes stored into bytes, and the bytes of some numbers
sets_made : (s v : List ℕ) (at : ℕ) → Bytes s → Bytes v → Bytes (sets s at v)
sets_made s [] at h l = h
sets_made s (x ∷ v) at h l = sets_made (set s at x) v (suc at) (set_made s at x (l 0) h) (λ k. l (suc k))

numbers_made : (w : ℕ) (xs : List ℕ) → Bytes (joined (bytes w) xs)
numbers_made w [] = none_made
numbers_made w (x ∷ xs) = both_made (bytes w x) (joined (bytes w) xs) (number_made w x) (numbers_made w xs)

module _ (w : Sweep) (records bounds : List ℕ) where
  -- what holds of the file, with records in a sector and with the new header, holds after a store
  stored-holds : (P : List ℕ → Type 0) (k : ℕ) (s : List ℕ) → P s → (k < point_stores w → P (with_records w records (w.at / 512 + k) s)) → (k ≡ point_stores w → P (with_header w bounds s)) → P (stored_of w records bounds k s).1
  unfolding stored_of step_of
  stored-holds P k s same point header =
      either (ltb (length records) w.bytes) _ _ (λ e. same)
      (either (ltb (length s) (w.at + w.bytes)) _ _ (λ e. same)
      (either (ltb k (point_stores w)) _ _ (λ e. point (ltb-true _ _ e)) (either (eqb k (point_stores w)) _ _ (λ e. header (eqb-true _ _ e)) same)))
    where
      either : (b : Bool) (x y : Result (Option Sector) Refusal × List ℕ) → (b ≡ true → P x.1) → P y.1 → P (cond b x y).1
      either true x y p q = p refl
      either false x y p q = q

  -- point stores change nothing but where the records go, whichever are made and in whatever order
  point_elsewhere : (k : ℕ) (s : List ℕ) → k < point_stores w → Elsewhere w.at w.bytes s (stored_of w records bounds k s).1
  unfolding with_records
  point_elsewhere k s h =
      let from = max w.at (512 * (w.at / 512 + k)) in
      let to = min (w.at + w.bytes) (512 * (w.at / 512 + k) + 512) in
      let v = take (to - from) (drop (from - w.at) records) in
      let short : length v ≤ to - from = rw length-take (min-le_left _ _) in
      stored-holds (Elsewhere w.at w.bytes s) k s nowhere
      (λ point. record { long = length-sets s from v; front = part_sets w.at 0 v s from (inl (omega arith)); rest = drop_sets (w.at + w.bytes) v s from (omega (arith, touched w k h)) })
      (λ last. absurd (omega arith))

  pub some_elsewhere : (ks s : List ℕ) → All (λ (k : ℕ). k < point_stores w) ks → Elsewhere w.at w.bytes s (some_stores w records bounds ks s)
  some_elsewhere [] s none = nowhere
  some_elsewhere (k ∷ ks) s (h & all) = then_elsewhere (point_elsewhere k s h) (some_elsewhere ks (stored_of w records bounds k s).1 all)

  pub after_elsewhere : (k : ℕ) (s : List ℕ) → k ≤ point_stores w → Elsewhere w.at w.bytes s (after_stores w records bounds k s)
  unfolding after_stores
  after_elsewhere zero s h = nowhere
  after_elsewhere (suc k) s h = then_elsewhere (after_elsewhere k s (omega arith)) (point_elsewhere k (after_stores w records bounds k s) h)

  -- the k-th store tells the sector that it changes: the k-th that the records touch, and after these sector 0
  module _ (six : length bounds ≡ 6) (there : w.bytes ≤ length records) (k : ℕ) (s : List ℕ) (room : w.at + w.bytes ≤ length s) where
    abbrev t : List ℕ
    t = after_stores w records bounds k s

    abbrev u : List ℕ
    u = after_stores w records bounds (k + 1) s

    told-one : (number : ℕ) → (stored_of w records bounds k t).0 ≡ sector_of number (length t) → (stored_of w records bounds k t ≡ (sector_of number (length s), u)) × OneSector number t u
    told-one number e =
        let told : stored_of w records bounds k t ≡ (sector_of number (length t), u) = λ i. (e i, sym (after_next w records bounds k s) i) in
        let one = whole-sector w records bounds six k (512 * number) (min 512 (length t - 512 * number)) t u told in
        (told ∙ ap (λ (l : ℕ). (sector_of number l, u)) (after-length w records bounds k s), (one.0, one.1, one.2))

    pub one_store : k < stores_of w → let number = cond (ltb k (point_stores w)) (w.at / 512 + k) 0 in (stored_of w records bounds k t ≡ (sector_of number (length s), u)) × OneSector number t u
    one_store h = go (ltb k (point_stores w)) refl
      where
        fits : w.at + w.bytes ≤ length t
        fits = omega (arith, after-length w records bounds k s)

        go : (b : Bool) → ltb k (point_stores w) ≡ b → let number = cond b (w.at / 512 + k) 0 in (stored_of w records bounds k t ≡ (sector_of number (length s), u)) × OneSector number t u
        go true e = told-one (w.at / 512 + k) (ap (λ (r : Result (Option Sector) Refusal × List ℕ). r.0) (point_store w records bounds there t fits k (ltb-true _ _ e)))
        go false e =
            let last : k ≡ point_stores w = omega (arith, ltb-false k (point_stores w) e, stores_are w) in
            told-one 0 (ap (λ (j : ℕ). (stored_of w records bounds j t).0) last ∙ ap (λ (r : Result (Option Sector) Refusal × List ℕ). r.0) (header_store w records bounds there t fits))

  module _ (made : Bytes records) where
    records_made : (number : ℕ) (s : List ℕ) → Bytes s → Bytes (with_records w records number s)
    unfolding with_records
    records_made number s all =
        let from = max w.at (512 * number) in
        let to = min (w.at + w.bytes) (512 * number + 512) in
        sets_made s (take (to - from) (drop (from - w.at) records)) from all (bytes_take (to - from) (drop (from - w.at) records) (bytes_drop (from - w.at) records made))

    header_made : (s : List ℕ) → Bytes s → Bytes (with_header w bounds s)
    unfolding with_header
    header_made s all =
        let count = bytes 4 w.points in
        let by-return = joined (bytes 4) (by_return_of w) in
        let counted = sets_made s count 107 all (number_made 4 w.points) in
        let returned = sets_made (sets s 107 count) by-return 111 counted (numbers_made 4 (by_return_of w)) in
        sets_made (sets (sets s 107 count) 111 by-return) (joined (bytes 8) bounds) 179 returned (numbers_made 8 bounds)

    -- each store leaves bytes
    stored_made : (k : ℕ) (s : List ℕ) → Bytes s → Bytes (stored_of w records bounds k s).1
    stored_made k s all = stored-holds Bytes k s all (λ point. records_made (w.at / 512 + k) s all) (λ last. header_made s all)

    pub after_made : (k : ℕ) (s : List ℕ) → Bytes s → Bytes (after_stores w records bounds k s)
    unfolding after_stores
    after_made zero s all = all
    after_made (suc k) s all = stored_made k (after_stores w records bounds k s) (after_made k s all)

    pub some_made : (ks s : List ℕ) → Bytes s → Bytes (some_stores w records bounds ks s)
    some_made [] s all = all
    some_made (k ∷ ks) s all = some_made ks (stored_of w records bounds k s).1 (stored_made k s all)
