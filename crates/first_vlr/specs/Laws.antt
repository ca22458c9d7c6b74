-- Laws of the search: one VLR more, found, passed or cut off; and where there is no room for any.
use Rattle.std.specs.Prelude.{Option, Some, None, Result, Ok, Err}
use Rattle.rules.specs.NotAccepted.{not_accepted}
use Rattle.refusal.specs.Refused.{at_record, refused_same}
use Rattle.first_vlr.specs.Span.{span, span_same}
use Rattle.first_vlr.specs.declared.Span.{Span}
use Rattle.rules.specs.declared.NotAccepted.{NotAccepted}
use Rattle.std.specs.Prelude.{ℕ, zero, suc, ◌+◌, ◌-◌, ◌≤◌, ◌<◌, Bool, true, cond, ◌&&◌, List, leb, length, take, drop}
use Rattle.std.proofs.Math.Path.{◌≡◌, refl, ap}
use Rattle.std.proofs.Common.{sym, ◌∙◌, length-take, length-drop, take_all}
use Rattle.std.proofs.Math.Bool.{false, and-false}
use native.Mathlib.Omega.{arith}
use borrow.Author.Tests.{le-leb, lt-leb, leb-true}
use Rattle.std.proofs.Math.Seq.{drop-drop}
use Rattle.refusal.specs.declared.Refusal.{Refusal}
use Rattle.vlr.specs.Vlr.{data_length, length_of, record_size, extent_of}
use Rattle.vlr.specs.Laws.{Whole, accepted, record_size_lem}
use Rattle.outline.specs.declared.Outline.{Outline}
use Rattle.file.specs.Rules.{checked_of}
use Rattle.cursor.specs.Parts.{between, outline_in}
use Rattle.first_vlr.specs.First.{opened_by, opened_of, is_of, data_at, first_by, first_from, first_of}

-- the bytes from a place on
pub rest_from : (rest : List ℕ) (at : ℕ) → take (length rest - at) (drop at rest) ≡ drop at rest
rest_from rest at = take_all (length rest - at) (drop at rest) (simp length-drop (omega arith))

-- one of `left` VLRs at the start of what is left of `rest`
module _ (user : List ℕ) (id from : ℕ) (rest : List ℕ) (at left : ℕ) (some : 0 < left) where
  abbrev here : List ℕ
  here = drop at rest

  abbrev search : ℕ → ℕ → Option Span
  search k p = first_from user id k (from + p) (drop p rest)

  one : left ≡ suc (left - 1)
  one = omega arith

  pub cut_off : {r : Refusal} → extent_of false here ≡ Err r → search left at ≡ None
  unfolding first_from
  cut_off e = rw (one, e)

  module _ {n : ℕ} (whole : extent_of false here ≡ Ok n) where
    size : record_size false here ≡ n
    size = record_size_lem false here ∙ sym (accepted false here whole).size

    pub is_it : is_of user id here ≡ true → search left at ≡ Some (span (from + at + 54) (n - 54))
    unfolding first_from
    is_it e =
        let long : data_length (length_of false here) ≡ n - 54 = omega (arith, (accepted false here whole).size) in
        rw (one, whole, e, long)

    pub not_it : is_of user id here ≡ false → search left at ≡ search (left - 1) (at + n)
    unfolding first_from
    not_it e =
        let further : from + at + n ≡ from + (at + n) = omega arith in
        ap (λ (k : ℕ). search k at) one ∙ rw (whole, e, size, drop-drop, further)

-- where the point offset lies before the header's end or beyond the file there are none
module _ (o : Outline) (user : List ℕ) (id : ℕ) (s : List ℕ) where
  pub offset_before : o.offset_to_point_data < o.header_size → first_of o user id s ≡ None
  unfolding first_of
  offset_before h = rw (lt-leb _ _ h)

  pub offset_beyond : length s < o.offset_to_point_data → first_of o user id s ≡ None
  unfolding first_of
  offset_beyond h = rw (lt-leb _ _ h, and-false)

  pub in_between : o.header_size ≤ o.offset_to_point_data → o.offset_to_point_data ≤ length s → first_of o user id s ≡ first_from user id o.number_of_variable_length_records o.header_size (between o.header_size o.offset_to_point_data s)
  unfolding first_of
  in_between h g = rw (le-leb _ _ h, le-leb _ _ g)

-- what is found lies in the bytes that are searched: the first VLR's, or those of the others,
found_by_lem : (user : List ℕ) (id at : ℕ) (rest : List ℕ) (others : Option Span) {a l : ℕ} → (others ≡ Some (span a l) → a + l ≤ at + record_size false rest + length (drop (record_size false rest) rest)) → first_by user id at rest (extent_of false rest) others ≡ Some (span a l) → a + l ≤ at + length rest
found_by_lem user id at rest others {a} {l} later = go (extent_of false rest) refl
  where
    by : {m : ℕ} → Whole false rest m → (b : Bool) → cond b (data_at at rest) others ≡ Some (span a l) → a + l ≤ at + length rest
    by w true p =
        let start : a ≡ at + 54 = sym (span_same p).0 in
        let long : l ≡ data_length (length_of false rest) = sym (span_same p).1 in
        omega arith
    by w false p = omega (arith, later p, length-drop (record_size false rest) rest, record_size_lem false rest)

    go : (x : Result ℕ Refusal) → extent_of false rest ≡ x → first_by user id at rest x others ≡ Some (span a l) → a + l ≤ at + length rest
    go (Ok m) e p = by (accepted false rest e) (is_of user id rest) p
    go (Err r) e p = let z : ◌≡◌ {A = ℕ} 0 1 = cc in absurd (omega arith)

found_in : (user : List ℕ) (id n at : ℕ) (rest : List ℕ) {a l : ℕ} → first_from user id n at rest ≡ Some (span a l) → a + l ≤ at + length rest
unfolding first_from
found_in user id zero at rest e = let z : ◌≡◌ {A = ℕ} 0 1 = cc in absurd (omega arith)
found_in user id (suc n) at rest e =
    let size = record_size false rest in
    found_by_lem user id at rest (first_from user id n (at + size) (drop size rest)) (found_in user id n (at + size) (drop size rest)) e

-- and so in the file, before the points
pub found_within : (o : Outline) (user : List ℕ) (id : ℕ) (s : List ℕ) {a l : ℕ} → first_of o user id s ≡ Some (span a l) → a + l ≤ length s
unfolding first_of
found_within o user id s {a} {l} = go (leb o.header_size o.offset_to_point_data) (leb o.offset_to_point_data (length s)) refl refl
  where
    go : (x y : Bool) → leb o.header_size o.offset_to_point_data ≡ x → leb o.offset_to_point_data (length s) ≡ y → cond (x && y) (first_from user id o.number_of_variable_length_records o.header_size (between o.header_size o.offset_to_point_data s)) None ≡ Some (span a l) → a + l ≤ length s
    go true true p q e =
        let h = leb-true o.header_size o.offset_to_point_data p in
        let g = leb-true o.offset_to_point_data (length s) q in
        omega (arith, found_in user id o.number_of_variable_length_records o.header_size (between o.header_size o.offset_to_point_data s) e, length-take (o.offset_to_point_data - o.header_size) (drop o.header_size s))
    go true false p q e = let z : ◌≡◌ {A = ℕ} 0 1 = cc in absurd (omega arith)
    go false y p q e = let z : ◌≡◌ {A = ℕ} 0 1 = cc in absurd (omega arith)

-- a file is opened exactly when the check accepts it
module _ (allowance : ℕ) (s : List ℕ) where
  pub opens : {n : ℕ} → checked_of allowance s ≡ Ok n → opened_of allowance s ≡ Ok (outline_in s)
  unfolding opened_of
  opens e = rw e

  pub opens_refused : {r : Refusal} {k n : ℕ} → checked_of allowance s ≡ Err (not_accepted r k n) → opened_of allowance s ≡ Err (at_record r k)
  unfolding opened_of
  opens_refused e = rw e

  pub opened_file_lem : {o : Outline} → opened_of allowance s ≡ Ok o → (n : ℕ) × (checked_of allowance s ≡ Ok n) × (o ≡ outline_in s)
  unfolding opened_of
  opened_file_lem {o} = go (checked_of allowance s) refl
    where
      go : (x : Result ℕ NotAccepted) → checked_of allowance s ≡ x → opened_by (outline_in s) x ≡ Ok o → (n : ℕ) × (checked_of allowance s ≡ Ok n) × (o ≡ outline_in s)
      go (Ok n) e p = (n, e, (cc))
      go (Err err) e p = let z : ◌≡◌ {A = ℕ} 0 1 = cc in absurd (omega arith)

  pub opened_refused : {r : Refusal} {k : ℕ} → opened_of allowance s ≡ Err (at_record r k) → (n : ℕ) × (checked_of allowance s ≡ Err (not_accepted r k n))
  unfolding opened_of
  opened_refused {r} {k} = go (checked_of allowance s) refl
    where
      go : (x : Result ℕ NotAccepted) → checked_of allowance s ≡ x → opened_by (outline_in s) x ≡ Err (at_record r k) → (n : ℕ) × (checked_of allowance s ≡ Err (not_accepted r k n))
      go (Ok n) e p = let z : ◌≡◌ {A = ℕ} 0 1 = cc in absurd (omega arith)
      go (Err err) e p =
          let refusal : err.refusal ≡ r = (refused_same p).0 in
          let number : err.«record» ≡ k = (refused_same p).1 in
          (err.records, e ∙ rw (refusal, number))
