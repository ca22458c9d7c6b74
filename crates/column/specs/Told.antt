-- Laws of what a column answers and leaves, by what it was refused for or filled for.
use Rattle.std.specs.Prelude.{Result, Ok, Err, ℕ, ◌+◌, ◌*◌, ◌-◌, ◌≤◌, ◌<◌, ◌≡◌, take}
use Rattle.refusal.specs.Refused.{at_record, refused_same}
use Rattle.refusal.specs.declared.Refused.{Refused}
use Rattle.std.proofs.Math.Path.{ap}
use Rattle.std.proofs.Common.{sym, ◌∙◌, arith, length-append, length-drop}
use mathlib.Core.List.{List, ◌++◌}
use Rattle.std.proofs.Math.Nat.{add-mul}
use Rattle.std.proofs.Math.ListN.{length, drop, get_or}
use Rattle.std.proofs.Math.Seq.{drop_at}
use Rattle.refusal.specs.declared.Refusal.{Refusal}
use Rattle.le.specs.Le.{num}
use Rattle.le.specs.Laws.{num-part}
use Rattle.format.specs.Fields.{record_bytes}
use Rattle.file.specs.Points.{format_long}
use Rattle.file.specs.Theorems.{accepted-holds}
use Rattle.column.specs.declared.Column.{Column}
use Rattle.column.specs.declared.Stretch.{Stretch}
use Rattle.column.specs.Column.{width_of, place_in, firsts, entry_of, filled_of, stretch_at, filled_by, column_of}
use Rattle.column.specs.Exact.{outline_in, format_in, start_in, RefusedFor, FilledFor}
use Rattle.column.specs.Fill.{length-firsts, first-at}
use Rattle.column.specs.Stretch.{in_record, then_refused, then_filled, Outcome, refused, filled, outcome}

module _ {A : Type 0} (value : ℕ → A) (c : Column) (allowance first count : ℕ) (s : List ℕ) (d : List A) where
  abbrev column : Result ℕ Refused × List A
  column = column_of value c allowance first count s d

  -- where there is a reason it is told, and the buffer stays
  pub refused_is : {why : Refusal} {j : ℕ} → RefusedFor allowance c first count (length d) s why j → column ≡ (Err (at_record why j), d)
  unfolding column_of
  refused_is r = ap (λ (t : Result Stretch Refused). filled_by value (width_of c) count t s d) (then_refused allowance c first count (length d) s r)

  -- and else the buffer begins with the numbers
  abbrev at : ℕ
  at = (stretch_at (format_in s) (start_in s) c first count).at

  pub filled_is : FilledFor allowance c first count (length d) s → column ≡ (Ok count, filled_of value (width_of c) at (record_bytes (format_in s)) count s d)
  unfolding column_of
  filled_is r = ap (λ (t : Result Stretch Refused). filled_by value (width_of c) count t s d) (then_filled allowance c first count (length d) s r)

  -- so the answer tells which it was
  pub was-refused : {why : Refusal} {j : ℕ} → column.0 ≡ Err (at_record why j) → RefusedFor allowance c first count (length d) s why j
  was-refused {why} {j} e = go (outcome allowance c first count (length d) s)
    where
      go : Outcome allowance c first count (length d) s → RefusedFor allowance c first count (length d) s why j
      go (refused {why = r} {j = k} x) =
          let told : column.0 ≡ Err (at_record r k) = ap (λ (p : Result ℕ Refused × List A). p.0) (refused_is x) in
          let same = refused_same (sym told ∙ e) in
          rw (← same.0, ← same.1) x
      go (filled x) =
          let told : column.0 ≡ Ok count = ap (λ (p : Result ℕ Refused × List A). p.0) (filled_is x) in
          let z : ◌≡◌ {A = ℕ} 0 1 = cc in
          absurd (omega arith)

  pub was-filled : {n : ℕ} → column.0 ≡ Ok n → FilledFor allowance c first count (length d) s × (n ≡ count)
  was-filled {n} e = go (outcome allowance c first count (length d) s)
    where
      go : Outcome allowance c first count (length d) s → FilledFor allowance c first count (length d) s × (n ≡ count)
      go (refused {why = r} {j = k} x) =
          let told : column.0 ≡ Err (at_record r k) = ap (λ (p : Result ℕ Refused × List A). p.0) (refused_is x) in
          let z : ◌≡◌ {A = ℕ} 0 1 = cc in
          absurd (omega arith)
      go (filled x) = let told : column.0 ≡ Ok count = ap (λ (p : Result ℕ Refused × List A). p.0) (filled_is x) in (x, cc)

  -- what lies past the numbers is as it was
  pub past : FilledFor allowance c first count (length d) s → (length column.1 ≡ length d) × (drop count column.1 ≡ drop count d)
  unfolding filled_of
  past r =
      let f = entry_of value (width_of c) at (record_bytes (format_in s)) s in
      let roomy = r.1 in
      let is : column.1 ≡ firsts f count ++ drop count d = ap (λ (p : Result ℕ Refused × List A). p.1) (filled_is r) in (
        ap length is ∙ simp (length-append, length-drop) (omega (arith, length-firsts f count)),
        ap (drop count) is ∙ drop_at (firsts f count) (drop count d) count (length-firsts f count),
      )

  -- and each number stands at its place in its record
  pub entry_is : FilledFor allowance c first count (length d) s → (i : ℕ) → i < count → (e : A) → (let o = outline_in s in get_or column.1 i e ≡ value (num (width_of c) (place_in (format_in s) c) (take o.point_data_record_length (drop (o.offset_to_point_data + (first - 1 + i) * o.point_data_record_length) s))))
  unfolding filled_of
  entry_is r i h e =
      let o = outline_in s in
      let m = o.point_data_record_length in
      let f = format_in s in
      let long : record_bytes f ≡ m = format_long allowance s (accepted-holds allowance s r.0.0.0.1) in
      let own : place_in f c + width_of c ≤ m = rw long at (in_record f c r.0.0.1).0 in
      let start = o.offset_to_point_data + (first - 1 + i) * m in
      let place : at + i * record_bytes f ≡ start + place_in f c = rw long (omega (arith, add-mul (first - 1) i m)) in
      let stands : num (width_of c) (place_in f c) (take m (drop start s)) ≡ num (width_of c) (start + place_in f c) s = num-part (width_of c) (place_in f c) m start s own in
      ap (λ (p : Result ℕ Refused × List A). get_or p.1 i e) (filled_is r) ∙ first-at (entry_of value (width_of c) at (record_bytes f) s) count (drop count d) i e h
      ∙ ap (λ (k : ℕ). value (num (width_of c) k s)) place ∙ ap value (sym stands)
