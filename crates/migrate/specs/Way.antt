-- The ways of the points: from one format to the other, in records that are two bytes longer or shorter, by the plan of the two.
use Rattle.std.specs.Prelude.{Result, Ok, Err, ℕ, ◌+◌, ◌*◌, ◌-◌, ◌≤◌, ◌≡◌, refl, Bool, true, false, List}
use Rattle.judge.specs.Run.{run_of, run_same}
use Rattle.refusal.specs.declared.Refusal.{Refusal}
use Rattle.refusal.specs.declared.Refused.{Refused}
use Rattle.std.proofs.Common.{sym, ◌∙◌}
use native.Mathlib.Omega.{arith}
use Rattle.format.specs.declared.Format.{Format}
use Rattle.format.specs.Format.{with_extra}
use Rattle.format.specs.Codes.{coded}
use Rattle.format.specs.Fields.{record_bytes, len_of}
use Rattle.format.specs.Laws.{record_sum}
use Rattle.format.specs.Attributes.{code-attributes}
use Rattle.format.specs.Length as format
use Rattle.rules.specs.Rules.{format_bytes}
use Rattle.rules.specs.Laws.{filled-bytes}
use Rattle.pairs.specs.declared.Plan.{Plan}
use Rattle.pairs.specs.Pairs.{format_with, old_pair, new_pair, lengths_of}
use Rattle.judge.specs.Judge.{judged_of, verdict_on, verdict_by, old_verdict, new_verdict}
use Rattle.convert.specs.Demand.{ask_of}
use Rattle.convert.specs.Told.{plan_of}

-- "format 1 or 3 into 1.4 with format 6 or 7, and such a 1.4 file into 1.2"
pub data Way : Bool → ℕ → ℕ → Type 0 where
  up_1 : Way true 1 6
  up_3 : Way true 3 7
  down_6 : Way false 6 1
  down_7 : Way false 7 3

-- a number moved by k: more on the way up, less on the way down
abbrev pub By : Bool → ℕ → ℕ → ℕ → Type 0
By true k a b = b ≡ a + k
By false k a b = a ≡ b + k

-- the bytes of their records
module _ (extra : ℕ) where
  bytes_1 : record_bytes (format_with 1 extra) ≡ 28 + extra
  unfolding format_with
  bytes_1 = record_sum (format_with 1 extra) ∙ rw code-attributes.1

  bytes_3 : record_bytes (format_with 3 extra) ≡ 34 + extra
  unfolding format_with
  bytes_3 = record_sum (format_with 3 extra) ∙ rw code-attributes.3

  bytes_6 : record_bytes (format_with 6 extra) ≡ 30 + extra
  unfolding format_with
  bytes_6 = record_sum (format_with 6 extra) ∙ rw code-attributes.6

  bytes_7 : record_bytes (format_with 7 extra) ≡ 36 + extra
  unfolding format_with
  bytes_7 = record_sum (format_with 7 extra) ∙ rw code-attributes.7

  pub two_bytes : {up : Bool} {a b : ℕ} → Way up a b → By up 2 (record_bytes (format_with a extra)) (record_bytes (format_with b extra))
  two_bytes up_1 = omega (arith, bytes_1, bytes_6)
  two_bytes up_3 = omega (arith, bytes_3, bytes_7)
  two_bytes down_6 = omega (arith, bytes_1, bytes_6)
  two_bytes down_7 = omega (arith, bytes_3, bytes_7)

-- a format's records are longer by their extra bytes, and tell how many these are
module _ (code : ℕ) where
  pub bytes-least : (extra : ℕ) → format_bytes code ≤ record_bytes (format_with code extra)
  unfolding format_with
  bytes-least extra =
      let none : format_bytes code - format_bytes code ≡ 0 = omega arith in
      omega (arith, filled-bytes code (format_bytes code) (omega arith), none, record_sum (with_extra (format_bytes code - format_bytes code) (coded code false)), record_sum (with_extra extra (coded code false)))

  pub extra_is : (x y : ℕ) → record_bytes (format_with code x) ≡ record_bytes (format_with code y) → x ≡ y
  unfolding format_with
  extra_is x y e = omega (arith, record_sum (with_extra x (coded code false)), record_sum (with_extra y (coded code false)))

-- what the question of a run answers, by the lengths of the two formats
pub asked : {up : Bool} {a b : ℕ} → Way up a b → (extra count : ℕ) (s : List ℕ) → let f = format_with a extra in let g = format_with b extra in ask_of up a extra count s ≡ verdict_by up count s (lengths_of f g (len_of f) (len_of g))
unfolding old_verdict new_verdict old_pair new_pair
asked up_1 extra count s = refl
asked up_3 extra count s = refl
asked down_6 extra count s = refl
asked down_7 extra count s = refl

-- a run that goes does so by their plan, and needs the bytes of its records
module _ (up : Bool) (f g : Format) (count : ℕ) (s : List ℕ) {p : Plan} {n : ℕ} where
  goes_by : verdict_by up count s (lengths_of f g (len_of f) (len_of g)) ≡ Ok (run_of p n) → (p ≡ plan_of f g) × (n ≡ count * record_bytes g)
  goes_by = go (format.told f) (format.told g)
    where
      run : (j : Result Unit Refused) → verdict_on (plan_of f g) count j ≡ Ok (run_of p n) → (p ≡ plan_of f g) × (n ≡ count * record_bytes g)
      run (Ok _) e = let same = run_same e in (sym same.0, sym same.1)
      run (Err err) e = let z : ◌≡◌ {A = ℕ} 0 1 = cc in absurd (omega arith)

      go : {x y : Result ℕ Refusal} → format.Told f x → format.Told g y → verdict_by up count s (lengths_of f g x y) ≡ Ok (run_of p n) → (p ≡ plan_of f g) × (n ≡ count * record_bytes g)
      go (format.over h) y e = let z : ◌≡◌ {A = ℕ} 0 1 = cc in absurd (omega arith)
      go (format.fits h) (format.over l) e = let z : ◌≡◌ {A = ℕ} 0 1 = cc in absurd (omega arith)
      go (format.fits h) (format.fits l) e = run (judged_of up (plan_of f g) count s) e

pub plan_is : {up : Bool} {a b : ℕ} → Way up a b → (extra count : ℕ) (s : List ℕ) {p : Plan} {n : ℕ} → ask_of up a extra count s ≡ Ok (run_of p n) → (p ≡ plan_of (format_with a extra) (format_with b extra)) × (n ≡ count * record_bytes (format_with b extra))
plan_is {up} {a} {b} way extra count s e = goes_by up (format_with a extra) (format_with b extra) count s (sym (asked way extra count s) ∙ e)
