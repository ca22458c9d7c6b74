-- The file check has no destination, and never refuses with 22.
use Rattle.std.specs.Prelude.{Result, Ok, Err}
use Rattle.rules.specs.NotAccepted.{not_accepted, found_same}
use Rattle.header.specs.declared.Whole.{Whole}
use Rattle.std.specs.Prelude.{ℕ, zero, suc, ◌≡◌, refl, Bool, true, false, cond, List, [], ◌∷◌, ◌++◌, eqb, drop}
use Rattle.std.proofs.Common.{arith}
use Rattle.refusal.specs.declared.Refusal.{Refusal}
use Rattle.refusal.specs.declared.Refusal.TheVariants.{EvlrStart, WaveformStart}
use Rattle.refusal.specs.Table.{number_of}
use Rattle.vlr.specs.declared.RecordLength.{RecordLength}
use Rattle.vlr.specs.declared.RecordLength.TheVariants as kind
use Rattle.vlr.specs.Vlr.{length_of, record_size}
use Rattle.header.specs.Judged.{judged, header_in}
use Rattle.header.specs.Answers.{refused-only}
use Rattle.outline.specs.declared.Outline.{Outline}
use Rattle.outline.specs.Outline.{outline_of}
use Rattle.rules.specs.Rules.{Rule, refused_by, first, header_rules, too_far, no_length, record_rules}
use Rattle.extents.specs.Extents.{start_refusal, vlr_rules, point_rule, later_rules, part_rules, outline_rules, vlr_bytes}
use Rattle.file.specs.Rules.{readable, standard_size, rules_of, checked_of}

abbrev NotRoom : Refusal → Type 0
NotRoom r = number_of r ≡ 22 → ⊥

-- the refusal of each rule of a list
abbrev Each : List Rule → Type 0
Each [] = Unit
Each (r ∷ rs) = NotRoom r.refusal × Each rs

each_append : (xs ys : List Rule) → Each xs → Each ys → Each (xs ++ ys)
each_append [] ys a b = b
each_append (x ∷ xs) ys (h, a) b = (h, each_append xs ys a b)

too_far_lem : (l : RecordLength) → NotRoom (too_far l)
too_far_lem (kind.Vlr n) = λ is. omega arith
too_far_lem (kind.Evlr n) = λ is. omega arith

records : (x : Bool) (allowance n k : ℕ) (rest : List ℕ) → Each (record_rules x allowance n k rest)
unfolding record_rules
records x allowance n zero rest = tt
records x allowance n (suc k) rest =
    (λ is. omega arith, (too_far_lem (no_length x), (too_far_lem (length_of x rest), records x allowance (suc n) k (drop (record_size x rest) rest))))

start : (o : Outline) → NotRoom (start_refusal o)
unfolding start_refusal
start o = go o.waveform
  where
    go : (b : Bool) → NotRoom (cond b WaveformStart (EvlrStart o.start_of_later_records))
    go true = λ is. omega arith
    go false = λ is. omega arith

later : (allowance : ℕ) (o : Outline) (s : List ℕ) → Each (later_rules allowance o s)
unfolding later_rules
later allowance o s = go (eqb o.number_of_later_records 0) _ (start o, (start o, records true allowance o.number_of_variable_length_records o.number_of_later_records (drop o.start_of_later_records s)))
  where
    go : (b : Bool) (rs : List Rule) → Each rs → Each (cond b [] rs)
    go true rs each = tt
    go false rs each = each

outline : (n minor allowance : ℕ) (o : Outline) (s : List ℕ) → Each (outline_rules n minor allowance o s)
unfolding outline_rules header_rules part_rules vlr_rules point_rule
outline n minor allowance o s =
    let parts =
    each_append (record_rules false allowance 0 o.number_of_variable_length_records (vlr_bytes o s)) (point_rule o s ∷ later_rules allowance o s)
    (records false allowance 0 o.number_of_variable_length_records (vlr_bytes o s))
    (λ is. omega arith, later allowance o s) in
    (λ is. omega arith, (λ is. omega arith, (λ is. omega arith, (λ is. omega arith, (λ is. omega arith, (λ is. omega arith, (λ is. omega arith, parts)))))))

all : (allowance : ℕ) (s : List ℕ) → Each (rules_of allowance s)
unfolding rules_of readable standard_size
all allowance s = go (judged s) refl
  where
    go : (j : Result Whole Refusal) → judged s ≡ j → Each (readable j ++ outline_rules (standard_size j) (header_in s).version.minor allowance (outline_of (header_in s)) s)
    go (Ok whole) p = outline whole.block _ allowance _ s
    go (Err r) p = (refused-only NotRoom (λ n is. omega arith) (λ n is. omega arith) (λ n is. omega arith) s p, outline 0 _ allowance _ s)

first-not : (rs : List Rule) (n : ℕ) → Each rs → {r : Refusal} {k m : ℕ} → first rs (Ok n) ≡ Err (not_accepted r k m) → NotRoom r
unfolding first
first-not [] n each e = let z : ◌≡◌ {A = ℕ} 0 1 = cc in absurd (omega arith)
first-not (x ∷ xs) n (own, each) {r} {k} {m} e = go x.holds e (first-not xs n each)
  where
    go : (b : Bool) → cond b (first xs (Ok n)) (refused_by x) ≡ Err (not_accepted r k m) → (first xs (Ok n) ≡ Err (not_accepted r k m) → NotRoom r) → NotRoom r
    go true h later = later h
    go false h later = let same : x.refusal ≡ r = (found_same h).0 in rw (← same) own

pub check_never_22 : (allowance : ℕ) (s : List ℕ) {r : Refusal} {k m : ℕ} → checked_of allowance s ≡ Err (not_accepted r k m) → number_of r ≡ 22 → ⊥
unfolding checked_of
check_never_22 allowance s e = first-not (rules_of allowance s) _ (all allowance s) e
