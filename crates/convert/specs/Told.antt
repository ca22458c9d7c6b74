-- A run of a pair, by the formats of its codes: where neither record is overlong it goes by their plan.
use Rattle.std.specs.Prelude.{Result, Ok, Err, ℕ, ◌≤◌, ◌<◌, ◌≡◌, refl, Bool, true, false, List, ◌⊎◌, eqb}
use Rattle.refusal.specs.Refused.{at_record}
use Rattle.refusal.specs.declared.Refused.{Refused}
use Rattle.std.proofs.Common.{ap, sym, subst, inl, inr, arith}
use borrow.Author.Tests.{eqb-true, eqb-false, ne_eqb}
use Rattle.refusal.specs.declared.Refusal.{Refusal}
use Rattle.refusal.specs.declared.Refusal.TheVariants.{NoPair, RecordLength}
use Rattle.format.specs.declared.Format.{Format}
use Rattle.format.specs.Fields.{record_bytes, len_of}
use Rattle.format.specs.Length as format
use Rattle.format.specs.Length.{len-told}
use Rattle.pairs.specs.Paired.{Paired, Mates, six_one, seven_three, eight_three, nine_four, ten_five}
use Rattle.pairs.specs.declared.Plan.{Plan}
use Rattle.pairs.specs.Pairs.{format_with, old_pair, new_pair, lengths_of}
use Rattle.judge.specs.Judge.{judged_of, verdict_on, verdict_by, old_verdict, new_verdict}
use Rattle.convert.specs.Run.{done_of, to_old_of, to_new_of}
use Rattle.pairs.specs.Sound.{Sound}
use Rattle.convert.specs.Demand.{Down, from_6, from_7, from_8, from_9, from_10, Up, from_1, from_3, from_4, from_5}

-- the plan of two formats
abbrev pub plan_of : Format → Format → Plan
plan_of a b = record { source = a; target = b; source_length = record_bytes a; target_length = record_bytes b }

-- what becomes of a run by a plan
unfoldable pub converted_of : Bool → Plan → ℕ → List ℕ → List ℕ → Result ℕ Refused × List ℕ
converted_of up p count s d = done_of up count s d (verdict_on p count (judged_of up p count s))

-- what a run is told by the lengths of two formats
abbrev pub told : Bool → Format → Format → ℕ → List ℕ → List ℕ → Result ℕ Refused × List ℕ
told up a b count s d = done_of up count s d (verdict_by up count s (lengths_of a b (len_of a) (len_of b)))

-- a refusal is no count of bytes
pub not-bytes : {A : Type 0} (r : Refusal) (j n : ℕ) (d e : List ℕ) → ◌≡◌ {A = Result ℕ Refused × List ℕ} (Err (at_record r j), d) (Ok n, e) → A
not-bytes r j n d e h =
    let q = ap (λ (w : Result ℕ Refused × List ℕ). w.0) h in
    let z : ◌≡◌ {A = ℕ} 0 1 = cc in
    absurd (omega arith)

module _ (up : Bool) (a b : Format) where
  module _ (count : ℕ) (s d : List ℕ) where
    -- "source, then target record over 65,535 bytes 8", and then by the plan
    pub data Tells : Result ℕ Refused × List ℕ → Type 0 where
      source_over : 65535 < record_bytes a → Tells (Err (at_record (RecordLength (record_bytes a)) 0), d)
      target_over : record_bytes a ≤ 65535 → 65535 < record_bytes b → Tells (Err (at_record (RecordLength (record_bytes b)) 0), d)
      runs : record_bytes a ≤ 65535 → record_bytes b ≤ 65535 → Tells (converted_of up (plan_of a b) count s d)

    pub tells : Tells (told up a b count s d)
    unfolding converted_of
    tells = go (format.told a) (format.told b)
      where
        go : {x y : Result ℕ Refusal} → format.Told a x → format.Told b y → Tells (done_of up count s d (verdict_by up count s (lengths_of a b x y)))
        go (format.over h) y = source_over h
        go (format.fits h) (format.over l) = target_over h l
        go (format.fits h) (format.fits l) = runs h l

    pub told-run : record_bytes a ≤ 65535 → record_bytes b ≤ 65535 → told up a b count s d ≡ converted_of up (plan_of a b) count s d
    unfolding converted_of
    told-run h l = rw (len-told a h, len-told b l)

    pub told-bytes : {n : ℕ} {e : List ℕ} → told up a b count s d ≡ (Ok n, e) → (record_bytes a ≤ 65535) × (record_bytes b ≤ 65535) × (converted_of up (plan_of a b) count s d ≡ (Ok n, e))
    told-bytes {n} {e} = go tells
      where
        go : {w : Result ℕ Refused × List ℕ} → Tells w → w ≡ (Ok n, e) → (record_bytes a ≤ 65535) × (record_bytes b ≤ 65535) × (converted_of up (plan_of a b) count s d ≡ (Ok n, e))
        go (source_over l) h = not-bytes _ 0 n d e h
        go (target_over m l) h = not-bytes _ 0 n d e h
        go (runs m l) h = (m, l, h)

  pub plan-of_sound : record_bytes a ≤ 65535 → record_bytes b ≤ 65535 → Mates up a b → Sound up (plan_of a b)
  plan-of_sound h l mates = record { from = len-told a h; into = len-told b l; mates = mates }

pub down_paired : {new old : ℕ} → Down new old → (extra : ℕ) → Paired (format_with new extra) (format_with old extra)
down_paired from_6 = six_one
down_paired from_7 = seven_three
down_paired from_8 = eight_three
down_paired from_9 = nine_four
down_paired from_10 = ten_five

-- what a run of a pair is told, on the way down and up
pub down_told : {new old : ℕ} → Down new old → (extra count : ℕ) (s d : List ℕ) → to_old_of new extra count s d ≡ told false (format_with new extra) (format_with old extra) count s d
unfolding to_old_of old_verdict old_pair
down_told from_6 extra count s d = refl
down_told from_7 extra count s d = refl
down_told from_8 extra count s d = refl
down_told from_9 extra count s d = refl
down_told from_10 extra count s d = refl

pub up-told : {old new : ℕ} → Up old new → (extra count : ℕ) (s d : List ℕ) → to_new_of old extra count s d ≡ told true (format_with old extra) (format_with new extra) count s d
unfolding to_new_of new_verdict new_pair
up-told from_1 extra count s d = refl
up-told from_3 extra count s d = refl
up-told from_4 extra count s d = refl
up-told from_5 extra count s d = refl

-- the way back from a new format
pub way_back : {old new : ℕ} → Up old new → Down new old
way_back from_1 = from_6
way_back from_3 = from_7
way_back from_4 = from_9
way_back from_5 = from_10

-- a code has a pair, or it has none and is refused with 26
module _ (code : ℕ) where
  pub pair_or-none : ((old : ℕ) × Down code old) ⊎ ((old : ℕ) → Down code old → ⊥)
  pair_or-none = go (eqb code 6) (eqb code 7) (eqb code 8) (eqb code 9) (eqb code 10) refl refl refl refl refl
    where
      is : (new old : ℕ) → Down new old → eqb code new ≡ true → ((old : ℕ) × Down code old) ⊎ ((old : ℕ) → Down code old → ⊥)
      is new old pair e = inl (old, subst (λ (c : ℕ). Down c old) (sym (eqb-true code new e)) pair)

      none : {c old : ℕ} → Down c old → (c ≡ 6 → ⊥) → (c ≡ 7 → ⊥) → (c ≡ 8 → ⊥) → (c ≡ 9 → ⊥) → (c ≡ 10 → ⊥) → ⊥
      none from_6 six seven eight nine ten = six refl
      none from_7 six seven eight nine ten = seven refl
      none from_8 six seven eight nine ten = eight refl
      none from_9 six seven eight nine ten = nine refl
      none from_10 six seven eight nine ten = ten refl

      go : (a b c d e : Bool) → eqb code 6 ≡ a → eqb code 7 ≡ b → eqb code 8 ≡ c → eqb code 9 ≡ d → eqb code 10 ≡ e → ((old : ℕ) × Down code old) ⊎ ((old : ℕ) → Down code old → ⊥)
      go true b c d e six seven eight nine ten = is 6 1 from_6 six
      go false true c d e six seven eight nine ten = is 7 3 from_7 seven
      go false false true d e six seven eight nine ten = is 8 3 from_8 eight
      go false false false true e six seven eight nine ten = is 9 4 from_9 nine
      go false false false false true six seven eight nine ten = is 10 5 from_10 ten
      go false false false false false six seven eight nine ten =
          inr (λ old pair. none pair (eqb-false code 6 six) (eqb-false code 7 seven) (eqb-false code 8 eight) (eqb-false code 9 nine) (eqb-false code 10 ten))

  pub none_told : ((old : ℕ) → Down code old → ⊥) → (extra count : ℕ) (s d : List ℕ) → to_old_of code extra count s d ≡ (Err (at_record (NoPair code) 0), d)
  unfolding to_old_of old_verdict old_pair
  none_told none extra count s d =
      rw (ne_eqb code 6 (other 6 1 from_6), ne_eqb code 7 (other 7 3 from_7), ne_eqb code 8 (other 8 3 from_8), ne_eqb code 9 (other 9 4 from_9), ne_eqb code 10 (other 10 5 from_10))
    where
      other : (new old : ℕ) → Down new old → code ≡ new → ⊥
      other new old pair q = none old (subst (λ (c : ℕ). Down c old) (sym q) pair)
