-- Laws of stretches: what each test of their definition says, and that the numbers of a stretch stand in its file.
use Rattle.std.specs.Prelude.{Result, Ok, Err, ℕ, ◌+◌, ◌*◌, ◌-◌, ◌≤◌, ◌<◌, ◌≡◌, refl, Bool, true, false, ◌&&◌, List, ltb, leb, length}
use Rattle.refusal.specs.Refused.{at_record, ok_same}
use Rattle.refusal.specs.declared.Refused.{Refused}
use Rattle.rules.specs.declared.NotAccepted.{NotAccepted}
use Rattle.std.proofs.Math.Path.{ap}
use Rattle.std.proofs.Common.{sym, subst, ◌∙◌, add-mul, mul-le-mul_right, arith}
use borrow.Author.Tests.{lt-ltb, le-ltb, le-leb, ltb-true, ltb-false, leb-true}
use Rattle.refusal.specs.declared.Refusal.{Refusal}
use Rattle.refusal.specs.declared.Refusal.TheVariants.{NoRoom, Index, FieldLacking}
use Rattle.format.specs.declared.Format.{Format}
use Rattle.format.specs.Fields.{place_of, size_of, record_bytes}
use Rattle.format.specs.declared.Field.TheVariants.{ExtraBytes}
use Rattle.format.specs.Laws.{fixed_le}
use Rattle.format.specs.Each.{field-within}
use Rattle.file.specs.Rules.{checked_of}
use Rattle.file.specs.Points.{format_long}
use Rattle.file.specs.Theorems.{accepted-holds}
use Rattle.walker.specs.Begin.{begin_of}
use Rattle.walker.specs.Accepted.{begins, begins_refused}
use Rattle.column.specs.declared.Axis.TheVariants.{X, Y, Z}
use Rattle.column.specs.declared.Channel.TheVariants.{Red, Green, Blue, Nir}
use Rattle.column.specs.declared.Column.{Column}
use Rattle.column.specs.declared.Column.TheVariants.{Axis, Time, Channel}
use Rattle.column.specs.declared.Stretch.{Stretch}
use Rattle.column.specs.Exact.{format_in, start_in, points_in, Within, Accepted, Has, Lies, RefusedFor, file_check, field_lacking, not_within, no_room, FilledFor}
use Rattle.column.specs.Column.{field_of, width_of, has_in, place_in, within, stretch_at, stretch_in, stretch_of, filled_of, filled_by, column_of, Lie}

-- what the test says
pub inside : (first count points : ℕ) → Within first count points → within first count points ≡ true
unfolding within
inside first count points (one, h) = rw (lt-ltb _ _ one, le-leb _ _ h)

pub inside_says : (first count points : ℕ) → within first count points ≡ true → Within first count points
unfolding within
inside_says first count points e = go (ltb 0 first) refl e
  where
    go : (b : Bool) → ltb 0 first ≡ b → (b && leb (first - 1 + count) points) ≡ true → Within first count points
    go true t h = (ltb-true 0 first t, leb-true (first - 1 + count) points h)
    go false t h = let z : ◌≡◌ {A = ℕ} 0 1 = cc in absurd (omega arith)

pub outside : (first count points : ℕ) → (Within first count points → ⊥) → within first count points ≡ false
outside first count points not_in = go (within first count points) refl
  where
    go : (b : Bool) → within first count points ≡ b → b ≡ false
    go true e = absurd (not_in (inside_says first count points e))
    go false e = refl

-- a number stands in its field, where that is there before the extra bytes,
in_field : (f : Format) (c : Column) → (place_in f c + width_of c ≤ place_of f (field_of c) + size_of f (field_of c)) × (place_in f c ≤ place_of f ExtraBytes + 8)
in_field f (Axis X) = (omega arith, omega arith)
in_field f (Axis Y) = (omega arith, omega arith)
in_field f (Axis Z) = (omega arith, omega arith)
in_field f Time = (omega arith, omega arith)
in_field f (Channel Red) = (omega arith, omega arith)
in_field f (Channel Green) = (omega arith, omega arith)
in_field f (Channel Blue) = (omega arith, omega arith)
in_field f (Channel Nir) = (omega arith, omega arith)

-- and so in the record, near its first byte
pub in_record : (f : Format) (c : Column) → has_in f c ≡ true → (place_in f c + width_of c ≤ record_bytes f) × (place_in f c ≤ 75)
in_record f c has = (omega (arith, field-within f (field_of c) has, (in_field f c).0), omega (arith, fixed_le f, (in_field f c).1))

module _ (f : Format) (at points : ℕ) (c : Column) (first count room : ℕ) where
  -- the refusals in their order, and where there is none
  pub lacking : has_in f c ≡ false → stretch_in f at points c first count room ≡ Err (at_record FieldLacking 0)
  unfolding stretch_in
  lacking e = rw e

  module _ (has : has_in f c ≡ true) where
    pub beyond : within first count points ≡ false → stretch_in f at points c first count room ≡ Err (at_record (Index points) 0)
    unfolding stretch_in
    beyond e = rw (has, e)

    module _ (in_points : within first count points ≡ true) where
      pub short : room < count → stretch_in f at points c first count room ≡ Err (at_record (NoRoom count) 0)
      unfolding stretch_in
      short h = rw (has, in_points, lt-ltb _ _ h)

      pub there : count ≤ room → stretch_in f at points c first count room ≡ Ok (stretch_at f at c first count)
      unfolding stretch_in
      there h = rw (has, in_points, le-ltb _ _ h)

-- the points of an accepted file end in it
points-end : (allowance : ℕ) (s : List ℕ) {n : ℕ} → checked_of allowance s ≡ Ok n → start_in s + points_in s * record_bytes (format_in s) ≤ length s
points-end allowance s e = let holds = accepted-holds allowance s e in rw (format_long allowance s holds) holds.parts.points-within

pub ends : (allowance : ℕ) (s : List ℕ) → (let p = begin_of allowance s in p.start ≡ (Ok tt) → p.at + p.count * record_bytes p.format ≤ length s)
ends allowance s accepted = go (checked_of allowance s) refl
  where
    go : (x : Result ℕ NotAccepted) → checked_of allowance s ≡ x → (let p = begin_of allowance s in p.at + p.count * record_bytes p.format ≤ length s)
    go (Ok n) e = let (f, at, count, is) = begins allowance s e in rw (f, at, count) (points-end allowance s e)
    go (Err err) e = let no = begins_refused allowance s e in let z : ◌≡◌ {A = ℕ} 0 1 = cc in absurd (omega arith)

-- the numbers of a stretch stand in s, and there is room for them
abbrev pub Stands : Column → List ℕ → ℕ → Stretch → Type 0
Stands c s room t = Lie (width_of c) t.at t.stride t.count s × (t.count ≤ room)

module _ (allowance : ℕ) (c : Column) (first count room : ℕ) (s : List ℕ) where
  -- what a stretch of an accepted file is, and of a refused one
  of-accepted : Accepted allowance s → stretch_of allowance c first count room s ≡ stretch_in (format_in s) (start_in s) (points_in s) c first count room
  unfolding stretch_of
  of-accepted (n, e) = let (f, at, count, is) = begins allowance s e in rw (is, f, at, count)

  pub then_refused : {why : Refusal} {j : ℕ} → RefusedFor allowance c first count room s why j → stretch_of allowance c first count room s ≡ Err (at_record why j)
  unfolding stretch_of
  then_refused (file_check e) = rw (begins_refused allowance s e)
  then_refused (field_lacking a h) = of-accepted a ∙ lacking _ _ _ c first count room h
  then_refused (not_within (a, h) w) = of-accepted a ∙ beyond _ _ _ c first count room h (outside first count (points_in s) w)
  then_refused (no_room ((a, h), w) e) = of-accepted a ∙ short _ _ _ c first count room h (inside first count (points_in s) w) e

  pub then_filled : FilledFor allowance c first count room s → stretch_of allowance c first count room s ≡ Ok (stretch_at (format_in s) (start_in s) c first count)
  then_filled (((a, h), w), e) = of-accepted a ∙ there _ _ (points_in s) c first count room h (inside first count (points_in s) w) e

  -- there is a reason to refuse, or none
  pub data Outcome : Type 0 where
    refused : {why : Refusal} {j : ℕ} → RefusedFor allowance c first count room s why j → Outcome
    filled : FilledFor allowance c first count room s → Outcome

  pub outcome : Outcome
  outcome = by_check_lem (checked_of allowance s) refl
    where
      by_room : Lies allowance c first count s → (b : Bool) → ltb room count ≡ b → Outcome
      by_room l true e = refused (no_room l (ltb-true room count e))
      by_room l false e = filled (l, ltb-false room count e)

      by_points : Has allowance c s → (b : Bool) → within first count (points_in s) ≡ b → Outcome
      by_points h true e = by_room (h, inside_says first count (points_in s) e) (ltb room count) refl
      by_points h false e = refused (not_within h (λ w. let t = inside first count (points_in s) w in let z : ◌≡◌ {A = ℕ} 0 1 = cc in omega arith))

      by_field : Accepted allowance s → (b : Bool) → has_in (format_in s) c ≡ b → Outcome
      by_field a true e = by_points (a, e) (within first count (points_in s)) refl
      by_field a false e = refused (field_lacking a e)

      by_check_lem : (x : Result ℕ NotAccepted) → checked_of allowance s ≡ x → Outcome
      by_check_lem (Ok n) e = by_field (n, e) (has_in (format_in s) c) refl
      by_check_lem (Err err) e = refused (file_check e)

  -- so its numbers stand in the file
  all_stand : FilledFor allowance c first count room s → Stands c s room (stretch_at (format_in s) (start_in s) c first count)
  all_stand (l, roomy) =
      let n = record_bytes (format_in s) in
      let own = (in_record (format_in s) c l.0.1).0 in
      let end = points-end allowance s l.0.0.1 in
      let upto : (first - 1 + count) * n ≤ points_in s * n = mul-le-mul_right n l.1.1 in
      let split = add-mul (first - 1) count n in (
        record {
          each = λ i h. let next : (i + 1) * n ≤ count * n = mul-le-mul_right n (omega arith) in omega (arith, add-mul i 1 n);
          apart = λ h. omega arith;
          strides = omega arith;
        },
        roomy,
      )

  stand : {t : Stretch} → stretch_of allowance c first count room s ≡ Ok t → Outcome → Stands c s room t
  stand is (refused r) = let told = then_refused r in let z : ◌≡◌ {A = ℕ} 0 1 = cc in absurd (omega arith)
  stand is (filled r) = subst (Stands c s room) (ok_same (sym (then_filled r) ∙ is)) (all_stand r)

-- so of what `stretch_of` answers, and what a column leaves that fills it
module _ (allowance : ℕ) (c : Column) (first count : ℕ) (s : List ℕ) where
  pub standing : (room : ℕ) {t : Stretch} → stretch_of allowance c first count room s ≡ Ok t → Stands c s room t
  standing room is = stand allowance c first count room s is (outcome allowance c first count room s)

  module _ {A : Type 0} (value : ℕ → A) (d : List A) where
    pub column_is : {t : Stretch} {l : List A} → stretch_of allowance c first count (length d) s ≡ Ok t → l ≡ filled_of value (width_of c) t.at t.stride t.count s d → (Ok count, l) ≡ column_of value c allowance first count s d
    unfolding column_of
    column_is is fills = ap (λ (l : List A). (Ok count, l)) fills ∙ sym (ap (λ (t : Result Stretch Refused). filled_by value (width_of c) count t s d) is)

    pub column_refused : {r : Refused} → stretch_of allowance c first count (length d) s ≡ Err r → (Err r, d) ≡ column_of value c allowance first count s d
    unfolding column_of
    column_refused is = sym (ap (λ (t : Result Stretch Refused). filled_by value (width_of c) count t s d) is)
