-- Laws of three columns in one pass, by what it is refused for or filled for.
use Rattle.std.specs.Prelude.{Result, Ok, Err, ℕ, ◌+◌, ◌*◌, ◌-◌, ◌≤◌, min, ◌≡◌, refl, Bool, true, false, List, ◌⊎◌, ltb, ℤ, length}
use Rattle.refusal.specs.Refused.{at_record, ok_same, refused_same}
use Rattle.refusal.specs.declared.Refused.{Refused}
use Rattle.std.proofs.Math.Path.{ap}
use Rattle.std.proofs.Common.{sym, subst, ◌∙◌, inl, inr, le_refl, ltb-true, ltb-false, to_z}
use native.Mathlib.Omega.{arith}
use Rattle.std.specs.Int.{w32}
use Rattle.refusal.specs.declared.Refusal.{Refusal}
use Rattle.refusal.specs.declared.Refusal.TheVariants.{NoRoom}
use Rattle.format.specs.declared.Format.{Format}
use Rattle.format.specs.Fields.{record_bytes}
use Rattle.column.specs.declared.Axis as axes
use Rattle.column.specs.declared.Axis.TheVariants.{X, Y, Z}
use Rattle.column.specs.declared.Column.TheVariants.{Axis}
use Rattle.column.specs.declared.Stretch.{Stretch}
use Rattle.column.specs.Column.{has_in, filled_of, stretch_at, stretch_of, column_of, Lie}
use Rattle.column.specs.Exact.{format_in, start_in, RefusedFor, file_check, field_lacking, not_within, no_room, FilledFor}
use Rattle.column.specs.Stretch.{in_record, standing, then_refused, then_filled, Outcome, refused, filled, outcome}
use Rattle.column.specs.Told.{refused_is, filled_is, was-refused}
use Rattle.column_xyz.specs.Xyz.{filled_xyz, filled_by, xyz_of}

-- every format has X, Y and Z
always : (f : Format) (a : axes.Axis) → has_in f (Axis a) ≡ true
always f X = refl
always f Y = refl
always f Z = refl

module _ (allowance first count : ℕ) (s : List ℕ) where
  -- so what stops one of them stops another, where that has no more room
  less_room : (a b : axes.Axis) {room small : ℕ} {why : Refusal} {j : ℕ} → small ≤ room → RefusedFor allowance (Axis a) first count room s why j → RefusedFor allowance (Axis b) first count small s why j
  less_room a b h (file_check e) = file_check e
  less_room a b h (field_lacking acc lacks) = let has = always (format_in s) a in let z : ◌≡◌ {A = ℕ} 0 1 = cc in absurd (omega arith)
  less_room a b h (not_within (acc, has) out) = not_within (acc, always (format_in s) b) out
  less_room a b h (no_room ((acc, has), within) short) = no_room ((acc, always (format_in s) b), within) (omega arith)

  -- and what stops none does not stop another that has as much
  more_room : (a b : axes.Axis) {room large : ℕ} → room ≤ large → FilledFor allowance (Axis a) first count room s → FilledFor allowance (Axis b) first count large s
  more_room a b h (((acc, has), within), roomy) = (((acc, always (format_in s) b), within), omega arith)

  module _ (x y z : List ℤ) where
    abbrev room : ℕ
    room = min (min (length x) (length y)) (length z)

    abbrev three : Result ℕ Refused × (List ℤ × List ℤ × List ℤ)
    three = xyz_of allowance first count s x y z

    pub xyz_refused : {why : Refusal} {j : ℕ} → RefusedFor allowance (Axis X) first count room s why j → three ≡ (Err (at_record why j), (x, y, z))
    unfolding xyz_of
    xyz_refused r = ap (λ (t : Result Stretch Refused). filled_by count t s x y z) (then_refused allowance (Axis X) first count room s r)

    abbrev at : ℕ
    at = (stretch_at (format_in s) (start_in s) (Axis X) first count).at

    xyz_filled : FilledFor allowance (Axis X) first count room s → three ≡ (Ok count, filled_xyz at (record_bytes (format_in s)) count s x y z)
    unfolding xyz_of
    xyz_filled r = ap (λ (t : Result Stretch Refused). filled_by count t s x y z) (then_filled allowance (Axis X) first count room s r)

    -- what its answer says
    pub was_stopped : {why : Refusal} {j : ℕ} → three.0 ≡ Err (at_record why j) → RefusedFor allowance (Axis X) first count room s why j × (three.1 ≡ (x, y, z))
    was_stopped {why} {j} e = go (outcome allowance (Axis X) first count room s)
      where
        go : Outcome allowance (Axis X) first count room s → RefusedFor allowance (Axis X) first count room s why j × (three.1 ≡ (x, y, z))
        go (refused {why = r} {j = k} why-so) =
            let told : three.0 ≡ Err (at_record r k) = ap (λ (p : Result ℕ Refused × (List ℤ × List ℤ × List ℤ)). p.0) (xyz_refused why-so) in
            let same = refused_same (sym told ∙ e) in
            (rw (← same.0, ← same.1) why-so, ap (λ (p : Result ℕ Refused × (List ℤ × List ℤ × List ℤ)). p.1) (xyz_refused why-so))
        go (filled r) =
            let told : three.0 ≡ Ok count = ap (λ (p : Result ℕ Refused × (List ℤ × List ℤ × List ℤ)). p.0) (xyz_filled r) in
            let z : ◌≡◌ {A = ℕ} 0 1 = cc in
            absurd (omega arith)

    pub was-filled : {n : ℕ} → three.0 ≡ Ok n → FilledFor allowance (Axis X) first count room s × (n ≡ count)
    was-filled {n} e = go (outcome allowance (Axis X) first count room s)
      where
        go : Outcome allowance (Axis X) first count room s → FilledFor allowance (Axis X) first count room s × (n ≡ count)
        go (refused {why = r} {j = k} why-so) =
            let told : three.0 ≡ Err (at_record r k) = ap (λ (p : Result ℕ Refused × (List ℤ × List ℤ × List ℤ)). p.0) (xyz_refused why-so) in
            let z : ◌≡◌ {A = ℕ} 0 1 = cc in
            absurd (omega arith)
        go (filled r) = let told : three.0 ≡ Ok count = ap (λ (p : Result ℕ Refused × (List ℤ × List ℤ × List ℤ)). p.0) (xyz_filled r) in (r, cc)

    -- the three stand in the file, X first and Z last, and there is room for each
    abbrev Stands : Stretch → Type 0
    Stands t = Lie 12 t.at t.stride t.count s × (t.count ≤ room)

    all_stand : FilledFor allowance (Axis X) first count room s → Stands (stretch_at (format_in s) (start_in s) (Axis X) first count)
    all_stand r =
        let last = more_room X Z (le_refl room) r in
        let (lie, roomy) = standing allowance (Axis Z) first count s room (then_filled allowance (Axis Z) first count room s last) in
        let own = (in_record (format_in s) (Axis Z) (always (format_in s) Z)).0 in
        (record { each = λ i h. omega (arith, lie.each i h); apart = λ h. omega arith; strides = lie.strides }, roomy)

    pub stands : {t : Stretch} → stretch_of allowance (Axis X) first count room s ≡ Ok t → Stands t
    stands {t} is = go (outcome allowance (Axis X) first count room s)
      where
        go : Outcome allowance (Axis X) first count room s → Stands t
        go (refused r) = let told = then_refused allowance (Axis X) first count room s r in let z : ◌≡◌ {A = ℕ} 0 1 = cc in absurd (omega arith)
        go (filled r) = subst Stands (ok_same (sym (then_filled allowance (Axis X) first count room s r) ∙ is)) (all_stand r)

    pub xyz_is : {t : Stretch} {l : List ℤ × List ℤ × List ℤ} → stretch_of allowance (Axis X) first count room s ≡ Ok t → l ≡ filled_xyz t.at t.stride t.count s x y z → (Ok count, l) ≡ three
    unfolding xyz_of
    xyz_is is fills = ap (λ (l : List ℤ × List ℤ × List ℤ). (Ok count, l)) fills ∙ sym (ap (λ (t : Result Stretch Refused). filled_by count t s x y z) is)

    pub xyz_stopped : {r : Refused} → stretch_of allowance (Axis X) first count room s ≡ Err r → (Err r, (x, y, z)) ≡ three
    unfolding xyz_of
    xyz_stopped is = sym (ap (λ (t : Result Stretch Refused). filled_by count t s x y z) is)

    -- what each column leaves
    abbrev column : axes.Axis → List ℤ → Result ℕ Refused × List ℤ
    column a d = column_of (to_z w32) (Axis a) allowance first count s d

    one-column : (a : axes.Axis) (d l : List ℤ) → room ≤ length d → FilledFor allowance (Axis X) first count room s → filled_of (to_z w32) 4 (stretch_at (format_in s) (start_in s) (Axis a) first count).at (record_bytes (format_in s)) count s d ≡ l → column a d ≡ (Ok count, l)
    one-column a d l h r is = filled_is (to_z w32) (Axis a) allowance first count s d (more_room X a h r) ∙ ap (λ (l : List ℤ). (Ok count, l)) is

    pub three_columns : FilledFor allowance (Axis X) first count room s → (column X x ≡ (Ok count, three.1.0)) × (column Y y ≡ (Ok count, three.1.1)) × (column Z z ≡ (Ok count, three.1.2))
    three_columns r =
        let all = ap (λ (p : Result ℕ Refused × (List ℤ × List ℤ × List ℤ)). p.1) (xyz_filled r) in
        let fills : ℕ → List ℤ → List ℤ = λ k d. filled_of (to_z w32) 4 k (record_bytes (format_in s)) count s d in
        let second : start_in s + (first - 1) * record_bytes (format_in s) + 4 ≡ at + 4 = omega arith in
        let third : start_in s + (first - 1) * record_bytes (format_in s) + 8 ≡ at + 8 = omega arith in (
          one-column X x _ (omega arith) r (sym (ap (λ (p : List ℤ × List ℤ × List ℤ). p.0) all)),
          one-column Y y _ (omega arith) r (ap (λ (k : ℕ). fills k y) second ∙ sym (ap (λ (p : List ℤ × List ℤ × List ℤ). p.1) all)),
          one-column Z z _ (omega arith) r (ap (λ (k : ℕ). fills k z) third ∙ sym (ap (λ (p : List ℤ × List ℤ × List ℤ). p.2) all)),
        )

    -- and refuses: where the least of the three has no room, it is one of them
    abbrev Refuses : Refusal → ℕ → axes.Axis → List ℤ → Type 0
    Refuses why j a d = (column a d).0 ≡ Err (at_record why j)

    refuses : (a : axes.Axis) (d : List ℤ) {why : Refusal} {j : ℕ} → RefusedFor allowance (Axis a) first count (length d) s why j → Refuses why j a d
    refuses a d r = ap (λ (p : Result ℕ Refused × List ℤ). p.0) (refused_is (to_z w32) (Axis a) allowance first count s d r)

    pub one_refuses : {why : Refusal} {j : ℕ} → RefusedFor allowance (Axis X) first count room s why j → Refuses why j X x ⊎ Refuses why j Y y ⊎ Refuses why j Z z
    one_refuses (file_check e) = inl (refuses X x (file_check e))
    one_refuses (field_lacking a lacks) = inl (refuses X x (field_lacking a lacks))
    one_refuses (not_within h out) = inl (refuses X x (not_within h out))
    one_refuses (no_room l short) = go (ltb (length x) count) refl (ltb (length y) count) refl
      where
        go : (p : Bool) → ltb (length x) count ≡ p → (q : Bool) → ltb (length y) count ≡ q → Refuses (NoRoom count) 0 X x ⊎ Refuses (NoRoom count) 0 Y y ⊎ Refuses (NoRoom count) 0 Z z
        go true e q g = inl (refuses X x (no_room l (ltb-true (length x) count e)))
        go false e true g = inr (inl (refuses Y y (no_room ((l.0.0, always (format_in s) Y), l.1) (ltb-true (length y) count g))))
        go false e false g = inr (inr (refuses Z z (no_room ((l.0.0, always (format_in s) Z), l.1) (omega (arith, ltb-false (length x) count e, ltb-false (length y) count g)))))

    pub one-refused : {why : Refusal} {j : ℕ} → Refuses why j X x ⊎ Refuses why j Y y ⊎ Refuses why j Z z → RefusedFor allowance (Axis X) first count room s why j
    one-refused (inl e) = less_room X X (omega arith) (was-refused (to_z w32) (Axis X) allowance first count s x e)
    one-refused (inr (inl e)) = less_room Y X (omega arith) (was-refused (to_z w32) (Axis Y) allowance first count s y e)
    one-refused (inr (inr e)) = less_room Z X (omega arith) (was-refused (to_z w32) (Axis Z) allowance first count s z e)
