-- Laws of the points' findings, and of the parts': what the loops go by.
use Rattle.std.specs.Prelude.{Some, None, Ok, ◌≡◌, Bool, true, false, cond, take, drop}
use Prim.Native.Nat.{ℕ, zero, suc, ◌+◌, ◌*◌, ◌-◌, ◌≤◌, ◌<◌}
use Rattle.std.proofs.Math.Path.{refl, ap, sym}
use Rattle.std.proofs.Common.{subst, ◌∙◌, zero-mul, mul-le-mul_right, length-append}
use mathlib.Core.List.{List, [], ◌∷◌}
use Rattle.std.proofs.Math.Nat.{suc-mul}
use Rattle.std.proofs.Math.Numerals.{add-one}
use native.Mathlib.Omega.{arith}
use Rattle.std.proofs.Math.ListN.{length}
use Rattle.std.proofs.Math.Seq.{drop-drop}
use Rattle.format.specs.declared.Format.{Format}
use Rattle.format.specs.Fields.{record_bytes}
use Rattle.file.specs.Rules.{checked_of}
use Rattle.file.specs.Points.{format_extended, format_long}
use Rattle.file.specs.Theorems.{accepted-holds}
use Rattle.cursor.specs.declared.Part.{Part}
use Rattle.cursor.specs.declared.Cursor.{Cursor}
use Rattle.cursor.specs.declared.Step.{Step}
use Rattle.cursor.specs.Parts.{Covers}
use Rattle.cursor.specs.Cursor.{step_of, left_of}
use Rattle.cursor.specs.Laws.{has_part, has-none}
use Rattle.cursor.specs.Covers.{covers_up}
use Rattle.walker.specs.Begin.{begin_of}
use Rattle.walker.specs.Accepted.{begins}
use Rattle.returns.specs.declared.Survey.{Survey}
use Rattle.returns.specs.Returns.{odd_in, odd_of, survey_at, survey_by, survey_of}
use Rattle.finding.specs.declared.Finding.{Finding}
use Rattle.finding.specs.Rules.{finding, when, through}
use Rattle.finding.specs.Told.{told, told_none, told-length, both}
use Rattle.findings.specs.Found.{point_at, found_in, found_from, survey_in}

length-when : (b : Bool) (f : Finding) → length (when b f) ≡ cond b 1 0
unfolding when
length-when true f = refl
length-when false f = refl

module _ (s : List ℕ) (e : Bool) (first m part : ℕ) where
  -- as many points are findings as are odd
  odd_length : (i n : ℕ) → length (through (point_at s e first m part) i n) ≡ odd_of e m n (drop (first + i * m) s)
  unfolding through point_at odd_of
  odd_length i zero = refl
  odd_length i (suc n) =
      let next : first + i * m + m ≡ first + suc i * m = omega (arith, suc-mul i m) in
      let here = odd_in e (take m (drop (first + i * m) s)) in
      rw (length-append, length-when here, odd_length (suc i) n, drop-drop m (first + i * m) s, next)

  pub odd_all : (n : ℕ) → length (through (point_at s e first m part) 0 n) ≡ odd_of e m n (drop first s)
  odd_all n =
      let from : first + 0 * m ≡ first = omega (arith, zero-mul m) in
      odd_length 0 n ∙ rw from

  -- the record at its place
  pub point_told : (i at : ℕ) {b : Bool} → at ≡ first + i * m → b ≡ odd_in e (take (at + m - at) (drop at s)) → when b (finding 4 part (i + 1) at) ≡ point_at s e first m part i
  unfolding point_at
  point_told i at place is =
      let cut : at + m - at ≡ m = omega arith in
      rw (is, cut, place)

-- a record of a run ends in the file
pub ends : (first count m i : ℕ) {l : ℕ} → first + count * m ≤ l → i < count → first + i * m + m ≤ l
ends first count m i h less =
    let all : suc i * m ≤ count * m = mul-le-mul_right m less in
    omega (arith, suc-mul i m)

-- no findings change nothing
pub told-empty : (fs : List Finding) (w : ℕ × List ℕ) → length fs ≡ 0 → told fs w ≡ w
told-empty [] w e = told_none w
told-empty (f ∷ fs) w e = absurd (omega arith)

-- of an accepted file the survey is what the header says
pub survey_is : (allowance : ℕ) (s : List ℕ) {n : ℕ} → checked_of allowance s ≡ Ok n → survey_of allowance s ≡ survey_in s
unfolding survey_of
survey_is allowance s e =
    let (f, at, count, is) = begins allowance s e in
    let holds = accepted-holds allowance s e in
    let extended = ap (λ (x : Format). x.is_extended) f ∙ format_extended allowance s holds in
    let long = ap record_bytes f ∙ format_long allowance s holds in
    ap (survey_by (begin_of allowance s) s) is ∙ (λ i. survey_at (extended i) (at i) (long i) (count i) s)

-- before a step of the cursor: the parts that are left follow one another, and what they add to what is told makes the whole
pub record Driving (s : List ℕ) (v : Survey) (c₀ : Cursor) (d₀ : List ℕ) (n : ℕ) (d : List ℕ) (number : ℕ) (c : Cursor) : Type 0 where
  pub counted : number + length (left_of s c) ≡ 1 + length (left_of s c₀)
  pub so_far : told (found_from s v number (left_of s c)) (n, d) ≡ told (found_from s v 1 (left_of s c₀)) (0, d₀)
  pub from : ℕ
  pub covers : Covers from (length s) (left_of s c)
  pub kept : length d ≡ length d₀

module _ (s : List ℕ) (v : Survey) (c₀ : Cursor) (d₀ : List ℕ) where
  pub driving : Covers 0 (length s) (left_of s c₀) → Driving s v c₀ d₀ 0 d₀ 1 c₀
  driving h = record { counted = refl; so_far = refl; from = 0; covers = h; kept = refl }

  module _ {n : ℕ} {d : List ℕ} {number : ℕ} {c : Cursor} (t : Driving s v c₀ d₀ n d number c) where
    -- a step that has a part: the first of those left
    module _ (step : Step) (has : step_of s c ≡ Some step) where
      first : left_of s c ≡ step.part ∷ left_of s step.next
      first = has_part s c has

      pub more : number + length (left_of s step.next) + 1 ≡ 1 + length (left_of s c₀)
      more = omega (arith, t.counted, ap length first)

      pub starts : step.part.start ≤ length s
      starts =
          let h : Covers t.from (length s) (step.part ∷ left_of s step.next) = subst (Covers t.from (length s)) first t.covers in
          omega (arith, h.0, covers_up (t.from + step.part.length) (length s) (left_of s step.next) h.1)

      pub driven : {m : ℕ} {e : List ℕ} → (m, e) ≡ told (found_in s v number step.part) (n, d) → Driving s v c₀ d₀ m e (number + 1) step.next
      unfolding found_from
      driven {m} {e} p =
          let rest = found_from s v (suc number) (left_of s step.next) in
          record {
            counted = omega (arith, more);
            so_far =
                rw add-one
                (both (found_in s v number step.part) rest n d p refl ∙ ap (λ (ps : List Part). told (found_from s v number ps) (n, d)) (sym first) ∙ t.so_far);
            from = t.from + step.part.length;
            covers = (subst (Covers t.from (length s)) first t.covers).1;
            kept = ap (λ (w : ℕ × List ℕ). length w.1) p ∙ told-length (found_in s v number step.part) (n, d) ∙ t.kept;
          }

    -- one that has none: all are told
    pub ended : step_of s c ≡ None → (n, d) ≡ told (found_from s v 1 (left_of s c₀)) (0, d₀)
    unfolding found_from
    ended none =
        let empty : left_of s c ≡ [] = has-none s c none in
        sym (told_none (n, d)) ∙ ap (λ (ps : List Part). told (found_from s v number ps) (n, d)) (sym empty) ∙ t.so_far
