-- What a column is worth: document 02, No. 6, "prove that it gives exactly what the walker gives for each point". `column_of` (`Column.antt`)
-- is what a call answers, and the buffer that it leaves of d; `value` makes an entry of the number in a record.
use Rattle.std.specs.Prelude.{Some, Result, Ok, Err, ℕ, ◌+◌, ◌*◌, ◌-◌, ◌<◌, ◌≡◌, refl, true, List, ◌↔◌, length, take, drop, get_or}
use Rattle.refusal.specs.Refused.{at_record}
use Rattle.refusal.specs.declared.Refused.{Refused}
use Rattle.std.proofs.Common.{ap, sym, subst, ◌∙◌, arith, to_z}
use Rattle.std.specs.Int.{w32}
use Rattle.std.specs.Borrow.{Bor}
use Rattle.refusal.specs.declared.Refusal.{Refusal}
use Rattle.le.specs.Le.{num, Bytes}
use Rattle.le.specs.declared.float.F64.{F64}
use Rattle.le.specs.Real.{f64_of}
use Rattle.format.specs.declared.Format.{Format}
use Rattle.format.specs.declared.Field.TheVariants.{GpsTime}
use Rattle.point.specs.declared.Point as point
use Rattle.point.specs.declared.Color.{Color}
use Rattle.point.specs.Read.{number_in, point_of}
use Rattle.point.specs.Kind.{color_in, stored_x, stored_y, stored_z, stored_time, stored_color, stored_nir}
use Rattle.walker.specs.Begin.{walker_of}
use Rattle.walker.specs.Steps.{answer_of}
use Rattle.walker.specs.Theorems.{in_turn}
use Rattle.column.specs.declared.Axis.TheVariants.{X, Y, Z}
use Rattle.column.specs.declared.Channel.TheVariants.{Red, Green, Blue, Nir}
use Rattle.column.specs.declared.Column.{Column}
use Rattle.column.specs.declared.Column.TheVariants.{Axis, Time, Channel}
use Rattle.column.specs.Column.{width_of, has_in, place_in, same, real, column_of}
use Rattle.column.specs.Exact.{outline_in, format_in, RefusedFor, FilledFor}
use Rattle.column.specs.Told.{refused_is, filled_is, was-refused, was-filled, past, entry_is}

module _ {A : Type 0} (value : ℕ → A) (c : Column) (allowance first count : ℕ) (s : List ℕ) (d : List A) where
  abbrev answer : Result ℕ Refused
  answer = (column_of value c allowance first count s d).0

  abbrev after : List A
  after = (column_of value c allowance first count s d).1

  -- "Refusals, in order: file check; field lacking; stretch not within the points (27); no room": refused with each exactly when it is the
  -- first to hold in that order (`RefusedFor`, in Exact.antt),
  pub refused_exactly : (why : Refusal) (j : ℕ) → (answer ≡ Err (at_record why j)) ↔ RefusedFor allowance c first count (length d) s why j
  refused_exactly why j = (was-refused value c allowance first count s d, λ r. ap (λ (p : Result ℕ Refused × List A). p.0) (refused_is value c allowance first count s d r))

  -- and filled exactly when none does, with `count` entries.
  pub filled_exactly : (n : ℕ) → (answer ≡ Ok n) ↔ (FilledFor allowance c first count (length d) s × (n ≡ count))
  filled_exactly n = (was-filled value c allowance first count s d, λ (r, same). ap (λ (p : Result ℕ Refused × List A). p.0) (filled_is value c allowance first count s d r) ∙ ap Ok (sym same))

  -- A refusal leaves the buffer as it was.
  pub untouched : {why : Refusal} {j : ℕ} → answer ≡ Err (at_record why j) → after ≡ d
  untouched e = ap (λ (p : Result ℕ Refused × List A). p.1) (refused_is value c allowance first count s d (was-refused value c allowance first count s d e))

  -- Entries past those that were filled stay.
  pub rest_kept : {n : ℕ} → answer ≡ Ok n → (length after ≡ length d) × (drop n after ≡ drop n d)
  rest_kept e = let r = was-filled value c allowance first count s d e in rw r.1 (past value c allowance first count s d r.0)

-- Of a column that was filled: the walker's answers are counted from 0, and points from 1, so entry i, from 0, is of the point number
-- first + i, which is the walker's answer first - 1 + i. A file is bytes, as its type has it.
module _ {A : Type 0} (value : ℕ → A) (c : Column) (allowance first count : ℕ) (file : Bor (List ℕ)) (bytes : Bytes file.now) (d : List A) {n : ℕ} (filled : answer value c allowance first count file.now d ≡ Ok n) where
  -- the record of entry i, by the header's offset and record length
  abbrev record_of : ℕ → List ℕ
  record_of i =
      let o = outline_in file.now in
      take o.point_data_record_length (drop (o.offset_to_point_data + (first - 1 + i) * o.point_data_record_length) file.now)

  -- "exactly what the walker gives for each point": it gives the record's point, and the entry is what stands in that record at the
  -- field's place.
  pub as_walked : (i : ℕ) → i < n → (e : A)
      → (answer_of (first - 1 + i) (walker_of allowance file) ≡ Ok (point_of (format_in file.now) (record_of i)))
      × (get_or (after value c allowance first count file.now d) i e ≡ value (num (width_of c) (place_in (format_in file.now) c) (record_of i)))
  as_walked i h e =
      let (r, same) = was-filled value c allowance first count file.now d filled in (
        (in_turn allowance file r.0.0.0.0 r.0.0.0.1 bytes (first - 1 + i) (omega (arith, r.0.1.1))).1,
        entry_is value c allowance first count file.now d r i (omega arith) e,
      )

-- So, column by column: the walker's answer is a point p whose field is the entry.
module _ (allowance first count : ℕ) (file : Bor (List ℕ)) (bytes : Bytes file.now) where
  abbrev f : Format
  f = format_in file.now

  pub record Walked {A : Type 0} (value : ℕ → A) (c : Column) (field : point.Point → A → Type 0) : Type 0 where
    pub gives :
        (d : List A) {n : ℕ} → answer value c allowance first count file.now d ≡ Ok n → (i : ℕ) → i < n → (e : A)
        → (p : point.Point) × (answer_of (first - 1 + i) (walker_of allowance file) ≡ Ok p) × field p (get_or (after value c allowance first count file.now d) i e)

  -- one step for all: what holds of a record's point and of the number in it holds of the walker's point and the entry
  by_record : {A : Type 0} {value : ℕ → A} {c : Column} {field : point.Point → A → Type 0} → (has_in f c ≡ true → (r : List ℕ) → field (point_of f r) (value (num (width_of c) (place_in f c) r))) → Walked value c field
  by_record {A} {value} {c} {field} holds =
      record {
        gives = λ d filled i h e.
            let p = point_of f (record_of value c allowance first count file bytes d filled i) in
            let both = as_walked value c allowance first count file bytes d filled i h e in
            let has = (was-filled value c allowance first count file.now d filled).0.0.0.1 in
            (p, both.0, subst (field p) (sym both.1) (holds has (record_of value c allowance first count file bytes d filled i)));
      }

  -- "X, Y, Z", the stored whole numbers,
  pub x_walked : Walked (to_z w32) (Axis X) (λ p v. p.x ≡ v)
  x_walked = by_record (λ has r. stored_x f r)

  pub y_walked : Walked (to_z w32) (Axis Y) (λ p v. p.y ≡ v)
  y_walked = by_record (λ has r. stored_y f r)

  pub z_walked : Walked (to_z w32) (Axis Z) (λ p v. p.z ≡ v)
  z_walked = by_record (λ has r. stored_z f r)

  -- "time", its value as an f64; and its bits, so that a NaN's pattern is there too,
  pub time_walked : Walked real Time (λ p v. (t : F64) × (p.gps_time ≡ Some t) × (t.value ≡ v))
  time_walked = by_record (λ has r. (f64_of (number_in f GpsTime r), stored_time f r has, refl))

  pub time_bits-walked : Walked same Time (λ p v. p.gps_time ≡ Some (f64_of v))
  time_bits-walked = by_record (λ has r. stored_time f r has)

  -- "red, green, blue",
  pub red_walked : Walked same (Channel Red) (λ p v. (k : Color) × (p.color ≡ Some k) × (k.red ≡ v))
  red_walked = by_record (λ has r. (color_in f r, stored_color f r has, refl))

  pub green_walked : Walked same (Channel Green) (λ p v. (k : Color) × (p.color ≡ Some k) × (k.green ≡ v))
  green_walked = by_record (λ has r. (color_in f r, stored_color f r has, refl))

  pub blue_walked : Walked same (Channel Blue) (λ p v. (k : Color) × (p.color ≡ Some k) × (k.blue ≡ v))
  blue_walked = by_record (λ has r. (color_in f r, stored_color f r has, refl))

  -- "or NIR", the number itself, 0 too (No. 5).
  pub nir_walked : Walked same (Channel Nir) (λ p v. p.nir ≡ Some v)
  nir_walked = by_record (λ has r. stored_nir f r has)
