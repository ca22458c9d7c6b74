-- Laws of the answers: when a record is all there, and what is read then; what a write that was not refused says.
use Rattle.std.specs.Prelude.{Result, Ok, Err}
use Rattle.std.specs.Prelude.{ℕ, ◌+◌, ◌≤◌, ◌<◌, Bool, List, ◌++◌, take, drop, leb, eqb}
use Rattle.std.proofs.Math.Path.{◌≡◌, refl, ap}
use Rattle.std.proofs.Common.{sym, ◌∙◌, arith, length-drop}
use Rattle.std.proofs.Math.Bool.{true, false, cond}
use borrow.Author.Tests.{ltb-true, ltb-false, le-ltb, eqb-true, eq-eqb, ne_eqb}
use Rattle.std.proofs.Math.ListN.{length}
use Rattle.std.proofs.lemmas.List.Edits.{sets}
use Rattle.std.proofs.Math.Seq.{length-take-le}
use Rattle.std.proofs.Math.Dec.{ltb}
use Rattle.le.specs.Laws.{length-bytes, num-take}
use Rattle.refusal.specs.Refused.{ok_same, err_same}
use Rattle.refusal.specs.declared.Refusal.{Refusal}
use Rattle.refusal.specs.declared.Refusal.TheVariants.{Short, VlrDataLength}
use Rattle.lent.specs.Front.{front_of}
use Rattle.lent.specs.Laws.{passed, answered}
use Rattle.vlr.specs.declared.RecordLength.{RecordLength}
use Rattle.vlr.specs.declared.RecordLength.TheVariants as kind
use Rattle.vlr.specs.declared.Vlr.{Vlr}
use Rattle.fields.specs.Table.{part, none, ◌&◌, Stored}
use Rattle.fields.specs.Laws.{Wide, length-joined, stored-joined}
use Rattle.vlr.specs.Layout.{LengthAfterHeader, fields, width, place, head_size}
use Rattle.vlr.specs.Places.{places_follow, head-sizes, head-least}
use Rattle.vlr.specs.Vlr.{data_length, is_evlr, length_of, stated_of, vlr_of, record_size, extent_of, read_by, read_of, data_of, field_bytes, head_bytes, written_of}

neither : (a b : Bool) (x y : Refusal) (m : ℕ) {n : ℕ} → cond a (Err x) (cond b (Err y) (Ok m)) ≡ Ok n → (b ≡ false) × (n ≡ m)
neither true b x y m p = let z : ◌≡◌ {A = ℕ} 0 1 = cc in absurd (omega arith)
neither false true x y m p = let z : ◌≡◌ {A = ℕ} 0 1 = cc in absurd (omega arith)
neither false false x y m p = (refl, cc)

-- the bytes of a record: its head's and those that the head states
module _ (extended : Bool) (s : List ℕ) where
  pub record_size_lem : record_size extended s ≡ head_size extended + data_length (length_of extended s)
  unfolding record_size
  record_size_lem = refl

  pub head-within : head_size extended ≤ record_size extended s
  head-within = omega (arith, record_size_lem)

  pub record_least : 54 ≤ record_size extended s
  record_least = omega (arith, head-within, head-least extended)

-- a record of n bytes at the start of s, all there
pub record Whole (extended : Bool) (s : List ℕ) (n : ℕ) : Type 0 where
  pub size : n ≡ head_size extended + data_length (length_of extended s)
  pub there : n ≤ length s

-- a record whose bytes are answered is whole
pub accepted : (extended : Bool) (s : List ℕ) {n : ℕ} → extent_of extended s ≡ Ok n → Whole extended s n
unfolding extent_of record_size
accepted extended s p =
    let q = neither (ltb (length s) (head_size extended)) (ltb (length s) (record_size extended s)) _ _ _ p in
    record { size = q.1; there = rw q.1 (ltb-false _ _ q.0) }

-- a head whose arrays have their lengths has fields of the table's widths, and so the bytes of its kind
module _ (v : Vlr) (id : length v.user_id ≡ 16) (text : length v.description ≡ 32) where
  pub head-wide : Wide (width (is_evlr v)) (field_bytes v) fields
  head-wide = refl & id & refl & length-bytes (width (is_evlr v) LengthAfterHeader) (data_length v.record_length_after_header) & text & none

  pub length-head : length (head_bytes v) ≡ head_size (is_evlr v)
  unfolding head_bytes
  length-head = length-joined (width (is_evlr v)) (field_bytes v) fields head-wide ∙ head-sizes (is_evlr v)

-- its fields stored each at its place are the head, stored at the front
pub stored-head : (v : Vlr) {d r : List ℕ} → Stored (width (is_evlr v)) (place (is_evlr v)) (field_bytes v) d fields r → r ≡ sets d 0 (head_bytes v)
unfolding head_bytes
stored-head v st = stored-joined (width (is_evlr v)) (field_bytes v) (place (is_evlr v)) fields 0 (places_follow (is_evlr v)) st

-- what a write answers where the data has the stated length, and where it has not
module _ (v : Vlr) (content d : List ℕ) where
  pub stated-length : length content ≡ data_length v.record_length_after_header → written_of v content d ≡ front_of (head_bytes v ++ content) d
  unfolding written_of
  stated-length e = rw (eq-eqb _ _ e)

  pub other_length : (length content ≡ data_length v.record_length_after_header → ⊥) → written_of v content d ≡ (Err (VlrDataLength (data_length v.record_length_after_header)), d)
  unfolding written_of
  other_length n = rw (ne_eqb _ _ n)

-- its length stands in its head
length_cut : (extended : Bool) (s : List ℕ) (n : ℕ) → head_size extended ≤ n → length_of extended (take n s) ≡ length_of extended s
length_cut true s n h = ap kind.Evlr (num-take 8 20 s n (omega arith))
length_cut false s n h = ap kind.Vlr (num-take 2 20 s n (omega arith))

-- the answer for a record that is whole
pub takes : (extended : Bool) (s : List ℕ) (n : ℕ) → Whole extended s n → extent_of extended s ≡ Ok n
unfolding extent_of record_size
takes extended s n w =
    let head : head_size extended ≤ length s = omega arith in
    let all : head_size extended + data_length (length_of extended s) ≤ length s = omega arith in
    rw (le-ltb _ _ head, le-ltb _ _ all, w.size)

-- and so the answer for one that ends in the bytes, or does not
module _ (extended : Bool) (s : List ℕ) where
  pub all_there : record_size extended s ≤ length s → extent_of extended s ≡ Ok (record_size extended s)
  all_there h = takes extended s (record_size extended s) (record { size = record_size_lem extended s; there = h })

  pub cut_off : {r : Refusal} → extent_of extended s ≡ Err r → length s < record_size extended s
  cut_off {r} p = go (ltb (length s) (record_size extended s)) refl
    where
      go : (b : Bool) → ltb (length s) (record_size extended s) ≡ b → length s < record_size extended s
      go true q = ltb-true _ _ q
      go false q =
          let there : extent_of extended s ≡ Ok (record_size extended s) = all_there (ltb-false _ _ q) in
          let z : ◌≡◌ {A = ℕ} 0 1 = cc in
          absurd (omega arith)

  -- a length is stated where the head is there, and else refused
  pub stated_is : {l : RecordLength} → stated_of extended s ≡ Ok l → (head_size extended ≤ length s) × (length_of extended s ≡ l)
  unfolding stated_of
  stated_is {l} p = go (ltb (length s) (head_size extended)) refl p
    where
      go : (b : Bool) → ltb (length s) (head_size extended) ≡ b → cond b (Err (Short (head_size extended))) (Ok (length_of extended s)) ≡ Ok l → (head_size extended ≤ length s) × (length_of extended s ≡ l)
      go true q h = let z : ◌≡◌ {A = ℕ} 0 1 = cc in absurd (omega arith)
      go false q h = (ltb-false _ _ q, cc)

  pub stated-refused : {r : Refusal} → stated_of extended s ≡ Err r → length s < head_size extended
  unfolding stated_of
  stated-refused {r} p = go (ltb (length s) (head_size extended)) refl p
    where
      go : (b : Bool) → ltb (length s) (head_size extended) ≡ b → cond b (Err (Short (head_size extended))) (Ok (length_of extended s)) ≡ Err r → length s < head_size extended
      go true q h = ltb-true _ _ q
      go false q h = let z : ◌≡◌ {A = ℕ} 0 1 = cc in absurd (omega arith)

  -- a record that ends in the bytes, cut from them, is whole
  pub read_cut : record_size extended s ≤ length s → extent_of extended (take (record_size extended s) s) ≡ Ok (record_size extended s)
  read_cut h =
      let n = record_size extended s in
      let size = record_size_lem extended s ∙ ap (λ (l : RecordLength). head_size extended + data_length l) (sym (length_cut extended s n (omega (arith, head-within extended s)))) in
      takes extended (take n s) n (record { size = size; there = omega (arith, length-take-le n s h) })

  -- it is read where its bytes are told, and refused as they are
  pub read_told : {n : ℕ} → extent_of extended s ≡ Ok n → read_of extended s ≡ Ok (vlr_of extended s)
  unfolding read_of
  read_told p = ap (read_by (vlr_of extended s)) p

  pub read_refused : {r : Refusal} → extent_of extended s ≡ Err r → read_of extended s ≡ Err r
  unfolding read_of
  read_refused p = ap (read_by (vlr_of extended s)) p

  -- and so a record that is read is whole
  pub read_accepted : {v : Vlr} → read_of extended s ≡ Ok v → (extent_of extended s ≡ Ok (record_size extended s)) × (v ≡ vlr_of extended s)
  read_accepted {v} e = go (extent_of extended s) refl
    where
      go : (x : Result ℕ Refusal) → extent_of extended s ≡ x → (extent_of extended s ≡ Ok (record_size extended s)) × (v ≡ vlr_of extended s)
      go (Ok n) p = let w = accepted extended s p in (p ∙ ap Ok (omega (arith, w.size, record_size_lem extended s)), ok_same (sym e ∙ read_told p))
      go (Err r) p =
          let is : read_of extended s ≡ Err r = read_refused p in
          let z : ◌≡◌ {A = ℕ} 0 1 = cc in
          absurd (omega arith)

  pub refused_so : {r : Refusal} → read_of extended s ≡ Err r → extent_of extended s ≡ Err r
  refused_so {r} e = go (extent_of extended s) refl
    where
      go : (x : Result ℕ Refusal) → extent_of extended s ≡ x → extent_of extended s ≡ Err r
      go (Ok n) p =
          let is : read_of extended s ≡ Ok (vlr_of extended s) = read_told p in
          let z : ◌≡◌ {A = ℕ} 0 1 = cc in
          absurd (omega arith)
      go (Err y) p = p ∙ ap Err (err_same (sym (read_refused p) ∙ e))

-- what is answered of a whole record
pub read_whole : (extended : Bool) (s : List ℕ) (n : ℕ) → Whole extended s n → (read_of extended s ≡ Ok (vlr_of extended s)) × (data_of extended s ≡ part (data_length (length_of extended s)) (head_size extended) s)
unfolding data_of
read_whole extended s n w = (read_told extended s (takes extended s n w), rw (takes extended s n w))

pub length-data : (extended : Bool) (s : List ℕ) (n : ℕ) → Whole extended s n → length (part (data_length (length_of extended s)) (head_size extended) s) ≡ data_length (length_of extended s)
length-data extended s n w = length-take-le _ _ (simp length-drop (omega arith))

-- what an answered count says of a write
pub record Written (v : Vlr) (content d d' : List ℕ) (n : ℕ) : Type 0 where
  pub stated : length content ≡ data_length v.record_length_after_header
  pub size : n ≡ length (head_bytes v ++ content)
  pub left : d' ≡ (head_bytes v ++ content) ++ drop (length (head_bytes v ++ content)) d

pub written : (v : Vlr) (content d d' : List ℕ) {n : ℕ} → written_of v content d ≡ (Ok n, d') → Written v content d d' n
unfolding written_of
written v content d d' p =
    let stated = passed (eqb (length content) (data_length v.record_length_after_header)) _ _ _ p in
    let room = passed (leb (length (head_bytes v ++ content)) (length d)) _ _ _ (stated).1 in
    let q = answered room.1 in
    record { stated = eqb-true _ _ (stated).0; size = q.0; left = q.1 }
