-- The findings of a part lie in it, ascending by byte and rule, and are no more than its bytes; so do those of all parts in the file.
use Rattle.std.specs.Prelude.{Ok, ℕ, zero, suc, ◌+◌, ◌*◌, ◌-◌, ◌≤◌, ◌<◌, ◌≡◌, refl, Bool, cond, leb, length}
use Rattle.std.proofs.Math.Path.{ap, subst}
use Rattle.std.proofs.Common.{sym, add-suc, suc-add, eqb-true, length-append}
use Rattle.std.proofs.Math.Bool.{true, false}
use mathlib.Core.List.{List, [], ◌∷◌, ◌++◌}
use Rattle.std.proofs.Math.Nat.{suc-mul, zero-mul, zero-add}
use native.Mathlib.Omega.{arith}
use Rattle.std.proofs.Math.Dec.{eqb}
use Rattle.le.specs.Le.{num}
use Rattle.vlr.specs.Vlr.{record_size}
use Rattle.vlr.specs.Laws.{record_least}
use Rattle.header.specs.Laws.{size-least}
use Rattle.header.specs.Layout.{VersionMinor, fields_of, size}
use Rattle.header.specs.Header.{number}
use Rattle.outline.specs.declared.Outline.{Outline}
use Rattle.extents.specs.Extents.{points_end}
use Rattle.rules.specs.Laws.{format_bytes_lem}
use Rattle.file.specs.Rules.{checked_of}
use Rattle.file.specs.Holds.{standard_in, Holds}
use Rattle.file.specs.Theorems.{accepted-holds}
use Rattle.cursor.specs.declared.Kind.TheVariants.{Header, Vlr, Gap, Points, Evlr, Waveform}
use Rattle.cursor.specs.declared.Part.{Part}
use Rattle.cursor.specs.Parts.{part, between, outline_in, parts_of, Covers, Each}
use Rattle.cursor.specs.Accepted.{laid}
use Rattle.cursor.specs.Each.{header_first, each_part}
use Rattle.cursor.specs.Theorems.{cover}
use Rattle.returns.specs.declared.Survey.{Survey}
use Rattle.returns.specs.Laws.{survey_points}
use Rattle.finding.specs.declared.Finding.{Finding}
use Rattle.finding.specs.Rules.{finding, spot, when, through, text_at, legacy_first, legacy_at, legacies, large_at, larges, is_large, counters}
use Rattle.findings.specs.Found.{texts_at, point_at, odd_points, found_in, found_from, survey_in, found_of}

-- a finding's place in the order: its first byte, then its rule, which is below 8
abbrev pub key : Finding → ℕ
key f = 8 * f.at + f.rule

-- each key lies above those before it, the first at or above one number, the last below another
abbrev pub Rising : ℕ → ℕ → List Finding → Type 0
Rising from to [] = from ≤ to
Rising from to (f ∷ fs) = (from ≤ key f) × (f.rule < 8) × Rising (suc (key f)) to fs

rising_lower : (a b c : ℕ) (fs : List Finding) → a ≤ b → Rising b c fs → Rising a c fs
rising_lower a b c [] h r = omega arith
rising_lower a b c (f ∷ fs) h (k, small, r) = (omega arith, small, r)

rising_upper : (a b c : ℕ) (fs : List Finding) → b ≤ c → Rising a b fs → Rising a c fs
rising_upper a b c [] h r = omega arith
rising_upper a b c (f ∷ fs) h (k, small, r) = (k, small, rising_upper (suc (key f)) b c fs h r)

rising_both : (a b c : ℕ) (fs gs : List Finding) → Rising a b fs → Rising b c gs → Rising a c (fs ++ gs)
rising_both a b c [] gs h r = rising_lower a b c gs h r
rising_both a b c (f ∷ fs) gs (k, small, h) r = (k, small, rising_both (suc (key f)) b c fs gs h r)

rising_when : {a c : ℕ} (b : Bool) (f : Finding) → f.rule < 8 → a ≤ key f → key f < c → Rising a c (when b f)
unfolding when
rising_when true f small low high = (low, small, omega arith)
rising_when false f small low high = omega arith

few_when : (b : Bool) (f : Finding) → length (when b f) ≤ 1
unfolding when
few_when true f = omega arith
few_when false f = omega arith

-- findings between two places of the file
pub record Inside (from to : ℕ) (fs : List Finding) : Type 0 where
  pub few : from + length fs ≤ to
  pub rising : Rising (8 * from) (8 * to) fs

inside_none : {a b : ℕ} → a ≤ b → Inside a b []
inside_none h = record { few = omega arith; rising = omega arith }

inside_wider : {a b c d : ℕ} (fs : List Finding) → a ≤ b → c ≤ d → Inside b c fs → Inside a d fs
inside_wider {a} {b} {c} {d} fs low high i =
    record {
      few = omega (arith, i.few);
      rising = rising_lower (8 * a) (8 * b) (8 * d) fs (omega arith) (rising_upper (8 * b) (8 * c) (8 * d) fs (omega arith) i.rising);
    }

inside_both : {a b c : ℕ} (fs gs : List Finding) → Inside a b fs → Inside b c gs → Inside a c (fs ++ gs)
inside_both {a} {b} {c} fs gs i j =
    record { few = omega (arith, i.few, j.few, length-append fs gs); rising = rising_both (8 * a) (8 * b) (8 * c) fs gs i.rising j.rising }

-- one finding, and two of the same place, by their rules
inside_one : {a c : ℕ} (b : Bool) (rule part point at : ℕ) → rule < 8 → a ≤ at → at < c → Inside a c (when b (finding rule part point at))
inside_one b rule part point at small low high =
    let f = finding rule part point at in
    record { few = omega (arith, few_when b f); rising = rising_when b f small (omega arith) (omega arith) }

inside_two : {a c : ℕ} (b d : Bool) (rule other part at : ℕ) → rule < other → other < 8 → a ≤ at → at + 2 ≤ c → Inside a c (when b (spot rule part at) ++ when d (spot other part at))
inside_two {a} {c} b d rule other part at less small low high =
    let f = spot rule part at in
    let g = spot other part at in
    let split : Rising (8 * a) (8 * at + other) (when b f) = rising_when b f (omega arith) (omega arith) (omega arith) in
    record {
      few = omega (arith, few_when b f, few_when d g, length-append (when b f) (when d g));
      rising = rising_both (8 * a) (8 * at + other) (8 * c) (when b f) (when d g) split (rising_when d g small (omega arith) (omega arith));
    }

-- what a rule gives at places that lie m bytes apart
inside_through : (f : ℕ → List Finding) (at m : ℕ) → ((i : ℕ) → Inside (at + i * m) (at + suc i * m) (f i)) → (i k : ℕ) → Inside (at + i * m) (at + (i + k) * m) (through f i k)
unfolding through
inside_through f at m each i zero =
    let e : i + 0 ≡ i = omega arith in
    rw e (inside_none (omega arith))
inside_through f at m each i (suc k) =
    rw (add-suc, ← suc-add) (inside_both (f i) (through f (suc i) k) (each i) (inside_through f at m each (suc i) k))

module _ (s : List ℕ) where
  texts_inside : (part start first width second : ℕ) {a c : ℕ} → a ≤ start + first → first < second → start + second < c → Inside a c (texts_at s part start first width second)
  unfolding texts_at text_at
  texts_inside part start first width second {a} {c} low apart high =
      inside_both (when _ (spot 5 part (start + first))) (when _ (spot 5 part (start + second)))
      (inside_one {a = a} {c = start + second} _ 5 part 0 (start + first) (omega arith) low (omega arith))
      (inside_one {a = start + second} {c = c} _ 5 part 0 (start + second) (omega arith) (omega arith) high)

  first_inside : (extended large : Bool) (part : ℕ) → Inside 107 111 (legacy_first s extended large part)
  unfolding legacy_first
  first_inside extended large part = inside_two _ _ 1 2 part 107 (omega arith) (omega arith) (omega arith) (omega arith)

  legacies_inside : (extended large : Bool) (numbers : List ℕ) (part : ℕ) → Inside 111 131 (legacies s extended large numbers part)
  unfolding legacies legacy_at
  legacies_inside extended large numbers part =
      inside_through (legacy_at s extended large numbers part) 107 4
      (λ i. inside_two _ _ 1 3 part (107 + 4 * i) (omega arith) (omega arith) (omega arith) (omega (arith, suc-mul i 4))) 1 5

  larges_inside : (numbers : List ℕ) (part : ℕ) → Inside 255 375 (larges s numbers part)
  unfolding larges large_at
  larges_inside numbers part =
      inside_through (large_at s numbers part) 247 8 (λ i. inside_one _ 3 part 0 (247 + 8 * i) (omega arith) (omega arith) (omega (arith, suc-mul i 8))) 1 15

  points_inside : (e : Bool) (at m part count : ℕ) → 0 < m → Inside at (at + count * m) (through (point_at s e at m part) 0 count)
  unfolding point_at
  points_inside e at m part count some =
      let from : at + 0 * m ≡ at = omega (arith, zero-mul m) in
      let to : at + (0 + count) * m ≡ at + count * m = ap (λ (k : ℕ). at + k * m) (omega arith) in
      subst (λ (a : ℕ). Inside a (at + count * m) (through (point_at s e at m part) 0 count)) from
      (subst (λ (c : ℕ). Inside (at + 0 * m) c (through (point_at s e at m part) 0 count)) to
      (inside_through (point_at s e at m part) at m (λ i. inside_one _ 4 part (i + 1) (at + i * m) (omega arith) (omega arith) (omega (arith, suc-mul i m))) 0 count))

-- of a file that is accepted, in any part of its table
module _ (allowance : ℕ) (s : List ℕ) {n : ℕ} (accepted : checked_of allowance s ≡ Ok n) where
  abbrev o : Outline
  o = outline_in s

  abbrev v : Survey
  v = survey_in s

  holds : Holds allowance s
  holds = accepted-holds allowance s accepted

  counters_inside : (extended : Bool) (numbers : List ℕ) (part : ℕ) → Inside 107 o.header_size (counters s extended numbers part)
  unfolding counters is_large
  counters_inside extended numbers part =
      inside_both (legacy_first s extended (eqb (num 1 25 s) 4) part) _ (first_inside s extended (eqb (num 1 25 s) 4) part)
      (inside_both (legacies s extended (eqb (num 1 25 s) 4) numbers part) _ (legacies_inside s extended (eqb (num 1 25 s) 4) numbers part) (go (eqb (num 1 25 s) 4) refl))
    where
      go : (b : Bool) → eqb (num 1 25 s) 4 ≡ b → Inside 131 o.header_size (cond b (larges s numbers part) [])
      go true e =
          let four : standard_in s ≡ 375 = ap (λ (m : ℕ). size (fields_of m)) (eqb-true (num 1 25 s) 4 e) in
          inside_wider (larges s numbers part) (omega arith) (omega (arith, holds.parts.header-size)) (larges_inside s numbers part)
      go false e = inside_none (omega (arith, holds.parts.header-size, size-least (number VersionMinor s)))

  abbrev In : Part → Type 0
  In p = (k : ℕ) → Inside p.start (p.start + p.length) (found_in s v k p)

  header_in_lem : In (part Header 0 o.header_size)
  unfolding found_in
  header_in_lem k =
      rw zero-add
      (inside_both (texts_at s k 0 26 32 58) _ (texts_inside s k 0 26 32 58 (omega arith) (omega arith) (omega arith))
      (counters_inside v.extended v.returns.numbers k))

  vlr_in : (at to : ℕ) → record_size false (between at to s) ≤ length (between at to s) → In (part Vlr at (record_size false (between at to s)))
  unfolding found_in
  vlr_in at to whole k = texts_inside s k at 2 16 22 (omega arith) (omega arith) (omega (arith, record_least false (between at to s)))

  evlr_in : (at to : ℕ) → record_size true (between at to s) ≤ length (between at to s) → In (part Evlr at (record_size true (between at to s)))
  unfolding found_in
  evlr_in at to whole k = texts_inside s k at 2 16 28 (omega arith) (omega arith) (omega (arith, record_least true (between at to s)))

  waveform_in : (at to : ℕ) → record_size true (between at to s) ≤ length (between at to s) → In (part Waveform at (record_size true (between at to s)))
  unfolding found_in
  waveform_in at to whole k = texts_inside s k at 2 16 28 (omega arith) (omega arith) (omega (arith, record_least true (between at to s)))

  gap_in : (from to : ℕ) → In (part Gap from (to - from))
  unfolding found_in
  gap_in from to k = inside_none (omega arith)

  points_in_lem : In (part Points o.offset_to_point_data (points_end o - o.offset_to_point_data))
  unfolding found_in odd_points
  points_in_lem k =
      let code = o.point_data_record_format in
      let (extended, at, each, count) = survey_points (leb 6 code) o.offset_to_point_data o.point_data_record_length o.number_of_point_records s in
      let some : 0 < o.point_data_record_length = omega (arith, (format_bytes_lem code).0, holds.parts.record_length_lem) in
      let to : points_end o ≡ o.offset_to_point_data + (points_end o - o.offset_to_point_data) = omega arith in
      rw (extended, at, each, count) (rw to at (points_inside s (leb 6 code) o.offset_to_point_data o.point_data_record_length k o.number_of_point_records some))

  parts_in : Each In (parts_of o s)
  parts_in =
      subst (Each In) (sym (header_first o s))
      (header_in_lem, each_part In gap_in s o (laid allowance s accepted) vlr_in evlr_in waveform_in points_in_lem)

  inside_parts : (k from to : ℕ) (ps : List Part) → Covers from to ps → Each In ps → Inside from to (found_from s v k ps)
  unfolding found_from
  inside_parts k from to [] e each = inside_none (omega arith)
  inside_parts k from to (p ∷ ps) (e, h) (here, each) =
      inside_both (found_in s v k p) (found_from s v (suc k) ps) (subst (λ (a : ℕ). Inside a (a + p.length) (found_in s v k p)) e (here k))
      (inside_parts (suc k) (from + p.length) to ps h each)

  -- all of them lie in the file, ascending, and are no more than its bytes
  pub all_inside : Inside 0 (length s) (found_of s)
  unfolding found_of
  all_inside = inside_parts 1 0 (length s) (parts_of o s) (cover allowance s accepted) parts_in
