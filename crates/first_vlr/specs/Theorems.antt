-- Which VLR is the first: document 02, No. 8, "The first such VLR counts", and No. 14, "first VLRs".
use Rattle.std.specs.Prelude.{Option, Some, None, Ok}
use Rattle.first_vlr.specs.Span.{span}
use Rattle.first_vlr.specs.declared.Span.{Span}
use Prim.Native.Nat.{ℕ, zero, suc, ◌+◌, ◌<◌}
use Rattle.std.specs.Prelude.{◌≡◌, refl, Bool, true, cond, drop, get_or}
use Rattle.std.proofs.Common.{sym, subst, arith}
use Rattle.std.proofs.Math.Path.{subst⁻¹}
use Rattle.std.proofs.Math.Bool.{false}
use mathlib.Core.List.{List}
use Rattle.vlr.specs.Layout.{head_size}
use Rattle.vlr.specs.Vlr.{data_length, length_of, record_size}
use Rattle.vlr.specs.Laws.{all_there}
use Rattle.outline.specs.declared.Outline.{Outline}
use Rattle.rules.specs.Records.{Run}
use Rattle.file.specs.Rules.{checked_of}
use Rattle.cursor.specs.declared.Kind.TheVariants.{Vlr}
use Rattle.cursor.specs.declared.Part.{Part}
use Rattle.cursor.specs.Parts.{part, between, outline_in, record_parts}
use Rattle.cursor.specs.Laws.{drop-between}
use Rattle.cursor.specs.Accepted.{laid}
use Rattle.file.specs.Theorems.{accepted-holds}
use Rattle.first_vlr.specs.First.{is_of, data_at, first_from, first_of}
use Rattle.first_vlr.specs.Laws.{in_between}

-- where the k-th of the VLRs begins, counted from 0, that begin at `at` and end by `to`
abbrev pub nth_at : ℕ → ℕ → ℕ → List ℕ → ℕ
nth_at zero at to s = at
nth_at (suc k) at to s = nth_at k (at + record_size false (between at to s)) to s

-- it is the k-th of these parts of the file
pub nth-part : (n k at to : ℕ) (s : List ℕ) (none : Part) → k < n → (let p = nth_at k at to s in get_or (record_parts Vlr false n at to s) k none ≡ part Vlr p (record_size false (between p to s)))
unfolding record_parts
nth-part zero k at to s none h = absurd (omega arith)
nth-part (suc n) zero at to s none h = refl
nth-part (suc n) (suc k) at to s none h = nth-part n k (at + record_size false (between at to s)) to s none (omega arith)

module _ (user : List ℕ) (id to : ℕ) (s : List ℕ) where
  -- whether the VLR that begins there has the ids
  abbrev pub has : ℕ → Bool
  has p = is_of user id (between p to s)

  -- the k-th of n has them, and none before it
  pub record FirstAt (n at k : ℕ) : Type 0 where
    pub one_of : k < n
    pub it_has : has (nth_at k at to s) ≡ true
    pub none_before : (j : ℕ) → j < k → has (nth_at j at to s) ≡ false

  -- what the search answers is the data of the first that has them, and nothing exactly where none has
  abbrev Answers : ℕ → ℕ → Option Span → Type 0
  Answers n at (Some at2) = (k : ℕ) × FirstAt n at k × (let p = nth_at k at to s in (at2.start ≡ p + head_size false) × (at2.length ≡ data_length (length_of false (between p to s))))
  Answers n at None = (k : ℕ) → k < n → has (nth_at k at to s) ≡ false

  -- one VLR more before those that are searched
  passed : (n at : ℕ) → has at ≡ false → (x : Option Span) → Answers n (at + record_size false (between at to s)) x → Answers (suc n) at x
  passed n at other (Some at2) (k, f, is) =
      (suc k, record { one_of = omega (arith, f.one_of); it_has = f.it_has; none_before = before }, is)
    where
      before : (j : ℕ) → j < suc k → has (nth_at j at to s) ≡ false
      before zero h = other
      before (suc j) h = f.none_before j (omega arith)
  passed n at other None none = each
    where
      each : (k : ℕ) → k < suc n → has (nth_at k at to s) ≡ false
      each zero h = other
      each (suc k) h = none k (omega arith)

  here : (n at : ℕ) (others : Option Span) → Answers n (at + record_size false (between at to s)) others → (b : Bool) → has at ≡ b → Answers (suc n) at (cond b (data_at at (between at to s)) others)
  here n at others later true e = (0, record { one_of = omega arith; it_has = e; none_before = λ j h. absurd (omega arith) }, (refl, refl))
  here n at others later false e = passed n at e others later

  answers : (n at : ℕ) → Run false n (between at to s) → Answers n at (first_from user id n at (between at to s))
  unfolding first_from
  answers zero at run = λ k h. absurd (omega arith)
  answers (suc n) at (whole, run) =
      let b = between at to s in
      let m = record_size false b in
      let cut = drop-between m at to s in
      let later = answers n (at + m) (subst (Run false n) cut run) in
      rw (all_there false b whole) (here n at (first_from user id n (at + m) (drop m b)) (subst (λ (l : List ℕ). Answers n (at + m) (first_from user id n (at + m) l)) (sym cut) later) (has at) refl)

module _ (allowance : ℕ) (user : List ℕ) (id : ℕ) (s : List ℕ) {records : ℕ} (accepted : checked_of allowance s ≡ Ok records) where
  abbrev o : Outline
  o = outline_in s

  answered : Answers user id o.offset_to_point_data s o.number_of_variable_length_records o.header_size (first_of o user id s)
  answered =
      let l = laid allowance s accepted in
      let within = (accepted-holds allowance s accepted).parts.offset_within in
      subst⁻¹ (Answers user id o.offset_to_point_data s o.number_of_variable_length_records o.header_size) (in_between o user id s l.after_header within)
      (answers user id o.offset_to_point_data s o.number_of_variable_length_records o.header_size l.vlrs)

  -- "The first such VLR counts": what is found in an accepted file is the data of one of its VLRs, which has the user id and the record id;
  -- none before it has them.
  pub found_is_first : {start l : ℕ} → first_of o user id s ≡ Some (span start l)
      → (k : ℕ) × FirstAt user id o.offset_to_point_data s o.number_of_variable_length_records o.header_size k
      × (let p = nth_at k o.header_size o.offset_to_point_data s in (start ≡ p + head_size false) × (l ≡ data_length (length_of false (between p o.offset_to_point_data s))))
  found_is_first e = subst (Answers user id o.offset_to_point_data s o.number_of_variable_length_records o.header_size) e answered

  -- "no such VLR": and nothing is found only where none of them has; an EVLR is never looked at.
  pub nothing-has : first_of o user id s ≡ None → (k : ℕ) → k < o.number_of_variable_length_records → has user id o.offset_to_point_data s (nth_at k o.header_size o.offset_to_point_data s) ≡ false
  nothing-has e = subst (Answers user id o.offset_to_point_data s o.number_of_variable_length_records o.header_size) e answered
