-- What a plan that is made is: sound.
use Rattle.std.specs.Prelude.{Option, Some, None, Result, Ok, Err, ℕ, ◌*◌, ◌≤◌, ◌<◌, ◌^◌, ◌≡◌, refl, Bool, true, false, cond, eqb}
use Rattle.refusal.specs.declared.Refusal.{Refusal}
use Rattle.std.proofs.Common.{ap, sym, mul-le-mul_left, mul_left_comm, arith}
use Rattle.format.specs.declared.Format.{Format}
use Rattle.format.specs.Fields.{len_of}
use Rattle.format.specs.Laws.{record_sum, len_is}
use Rattle.pairs.specs.declared.Plan.{Plan}
use Rattle.pairs.specs.Pairs.{old_pair, new_pair, lengths_of, planned_by}
use Rattle.pairs.specs.Paired.{Mates, shorter, six_one, seven_three, eight_three, nine_four, ten_five}

-- the lengths are the formats', and the formats are a pair
pub record Sound (up : Bool) (p : Plan) : Type 0 where
  pub from : len_of p.source ≡ Ok p.source_length
  pub into : len_of p.target ≡ Ok p.target_length
  pub mates : Mates up p.source p.target

-- so the extra bytes are as many on both sides
pub same-extra : (up : Bool) (a b : Format) → Mates up a b → a.extra_bytes ≡ b.extra_bytes
same-extra true a b m = sym m.extra
same-extra false a b m = m.extra

-- and a record of the target has at most twice the bytes of the source's, so that a run in memory can be told its bytes
at-most_twice : (up : Bool) (p : Plan) → Sound up p → p.target_length ≤ 2 * p.source_length
at-most_twice up p sound = go up sound.mates
  where
    go : (b : Bool) → Mates b p.source p.target → p.target_length ≤ 2 * p.source_length
    go true m = omega (arith, (shorter p.target p.source m).1, record_sum p.source, len_is _ _ sound.from, len_is _ _ sound.into)
    go false m = omega (arith, (shorter p.source p.target m).0, len_is _ _ sound.from, len_is _ _ sound.into)

pub bytes-told : (up : Bool) (p : Plan) → Sound up p → (count n : ℕ) → count * p.source_length ≤ n → n < 2 ^ 63 → count * p.target_length < 2 ^ 64
bytes-told up p sound count n there memory =
    let more : count * p.target_length ≤ count * (2 * p.source_length) = mul-le-mul_left count (at-most_twice up p sound) in
    omega (arith, mul_left_comm count 2 p.source_length)

-- the formats that are found are such a pair
abbrev PairSound : Bool → Option (Format × Format) → Type 0
PairSound up (Some (a, b)) = Mates up a b
PairSound up None = Unit

-- what holds of two pairs holds of whichever is chosen
pub either : (Q : Option (Format × Format) → Type 0) (b : Bool) (x y : Option (Format × Format)) → Q x → Q y → Q (cond b x y)
either Q true x y h k = h
either Q false x y h k = k

pub not-up : {A : Type 0} → ◌≡◌ {A = Bool} false true → A
not-up z = let y : ◌≡◌ {A = ℕ} 0 1 = ap (λ (b : Bool). cond b 1 0) z in absurd (omega arith)

old_sound : (n extra : ℕ) → PairSound false (old_pair n extra)
unfolding old_pair
old_sound n extra =
    either (PairSound false) (eqb n 6) _ _ (six_one extra) (either (PairSound false) (eqb n 7) _ _ (seven_three extra) (either (PairSound false) (eqb n 8) _ _ (eight_three extra) (either (PairSound false) (eqb n 9) _ _ (nine_four extra) (either (PairSound false) (eqb n 10) _ None (ten_five extra) tt))))

new_sound : (n extra : ℕ) → PairSound true (new_pair n extra)
unfolding new_pair
new_sound n extra =
    either (PairSound true) (eqb n 1) _ _ (six_one extra) (either (PairSound true) (eqb n 3) _ _ (seven_three extra)
    (either (PairSound true) (eqb n 4) _ _ (nine_four extra) (either (PairSound true) (eqb n 5) _ None (ten_five extra) tt)))

-- what is planned is sound, if it is a plan
abbrev pub PlannedSound : Bool → Result Plan Refusal → Type 0
PlannedSound up (Ok p) = Sound up p
PlannedSound up (Err r) = Unit

planned_sound : (up : Bool) (format : ℕ) (pair : Option (Format × Format)) → PairSound up pair → PlannedSound up (planned_by format pair)
planned_sound up format None h = tt
planned_sound up format (Some (a, b)) h = go (len_of a) (len_of b) refl refl
  where
    go : (x y : Result ℕ Refusal) → len_of a ≡ x → len_of b ≡ y → PlannedSound up (lengths_of a b x y)
    go (Ok m) (Ok n) f g = record { from = f; into = g; mates = h }
    go (Ok m) (Err r) f g = tt
    go (Err r) y f g = tt

pub old_planned : (format extra : ℕ) → PlannedSound false (planned_by format (old_pair format extra))
old_planned format extra = planned_sound false format (old_pair format extra) (old_sound format extra)

pub new_planned : (format extra : ℕ) → PlannedSound true (planned_by format (new_pair format extra))
new_planned format extra = planned_sound true format (new_pair format extra) (new_sound format extra)
