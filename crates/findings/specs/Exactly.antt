-- The list of findings has what is broken, and nothing else.
use Rattle.std.specs.Prelude.{Ok, ◌⊎◌, Bool, not, ◌||◌, ltb, leb, take, drop, get_or}
use Prim.Native.Nat.{ℕ, zero, suc, ◌+◌, ◌*◌, ◌-◌, ◌≤◌, ◌<◌}
use Rattle.std.proofs.Math.Path.{◌≡◌, refl, ap, sym}
use Rattle.std.proofs.Common.{subst, ◌∙◌, inr}
use Rattle.std.proofs.Math.Logic.{inl}
use Rattle.std.proofs.Math.Bool.{true, false, cond}
use mathlib.Core.List.{List, [], ◌∷◌, ◌++◌}
use native.Mathlib.Omega.{arith}
use borrow.Author.Tests.{eq-eqb, ne_eqb, eqb-true, eqb-false, le-leb, leb-true, lt-ltb, ltb-true}
use Rattle.std.proofs.Math.Dec.{eqb}
use Rattle.le.specs.Le.{num}
use Rattle.header.specs.Layout.{VersionMinor}
use Rattle.header.specs.Header.{number}
use Rattle.outline.specs.declared.Outline.{Outline}
use Rattle.file.specs.Rules.{checked_of}
use Rattle.cursor.specs.declared.Kind.{Kind}
use Rattle.cursor.specs.declared.Kind.TheVariants.{Header, Vlr, Gap, Points, Evlr, Waveform}
use Rattle.cursor.specs.declared.Part.{Part}
use Rattle.cursor.specs.Parts.{part, outline_in, body_of, parts_of, Each}
use Rattle.cursor.specs.Accepted.{laid}
use Rattle.cursor.specs.Each.{header_first, each_part}
use Rattle.text_rest.specs.Rest.{rest_of}
use Rattle.text_rest.specs.Theorems.{Untidy, rest_exactly}
use Rattle.returns.specs.declared.Mark.{Mark}
use Rattle.returns.specs.declared.Survey.{Survey}
use Rattle.returns.specs.Returns.{mark_of, is_odd, odd_in}
use Rattle.returns.specs.Laws.{survey_points, survey_number}
use Rattle.finding.specs.declared.Finding.{Finding}
use Rattle.finding.specs.Rules.{finding, spot, unlike, when, through, text_at, legacy_first, legacy_at, legacies, large_at, larges, is_large, counters}
use Rattle.findings.specs.Found.{texts_at, point_at, odd_points, found_as, found_in, found_from, survey_in, found_of}
use Rattle.findings.specs.Broken.{Among, Entry, TextField, point_place, mark_at, have_return, Broken, legacy, unlike-large, large, five, return-number, text}

module _ (f : Finding) where
  -- among two lists
  among_left : (fs gs : List Finding) → Among f fs → Among f (fs ++ gs)
  among_left [] gs a = absurd a
  among_left (g ∷ fs) gs (inl e) = inl e
  among_left (g ∷ fs) gs (inr a) = inr (among_left fs gs a)

  among_right : (fs gs : List Finding) → Among f gs → Among f (fs ++ gs)
  among_right [] gs a = a
  among_right (g ∷ fs) gs a = inr (among_right fs gs a)

  among_split : {A : Type 0} (fs gs : List Finding) → (Among f fs → A) → (Among f gs → A) → Among f (fs ++ gs) → A
  among_split [] gs h k a = k a
  among_split (g ∷ fs) gs h k (inl e) = h (inl e)
  among_split (g ∷ fs) gs h k (inr a) = among_split fs gs (λ b. h (inr b)) k a

  -- of one
  among_when : (b : Bool) (g : Finding) → Among f (when b g) → (b ≡ true) × (f ≡ g)
  unfolding when
  among_when true g (inl e) = (refl, e)
  among_when true g (inr a) = absurd a
  among_when false g a = absurd a

  when_among : (b : Bool) (g : Finding) → b ≡ true → f ≡ g → Among f (when b g)
  unfolding when
  when_among true g e is = inl is
  when_among false g e is = let z : ◌≡◌ {A = ℕ} 0 1 = ap (λ (x : Bool). cond x 1 0) e in absurd (omega arith)

  -- of what a rule gives at several places
  among_through : (g : ℕ → List Finding) (i k : ℕ) → Among f (through g i k) → (j : ℕ) × (i ≤ j) × (j < i + k) × Among f (g j)
  unfolding through
  among_through g i zero a = absurd a
  among_through g i (suc k) a =
      among_split (g i) (through g (suc i) k) (λ b. (i, omega arith, omega arith, b))
      (λ b. let (j, low, high, c) = among_through g (suc i) k b in (j, omega arith, omega arith, c)) a

  through_among : (g : ℕ → List Finding) (i k j : ℕ) → i ≤ j → j < i + k → Among f (g j) → Among f (through g i k)
  unfolding through
  through_among g i zero j low high a = absurd (omega arith)
  through_among g i (suc k) j low high a = go (eqb j i) refl (through_among g (suc i) k j)
    where
      go : (b : Bool) → eqb j i ≡ b → (suc i ≤ j → j < suc i + k → Among f (g j) → Among f (through g (suc i) k)) → Among f (g i ++ through g (suc i) k)
      go true e later = among_left (g i) (through g (suc i) k) (subst (λ (n : ℕ). Among f (g n)) (eqb-true j i e) a)
      go false e later =
          let other = eqb-false j i e in
          among_right (g i) (through g (suc i) k) (later (omega (arith, other)) (omega arith) a)

-- two numbers that are compared and differ
unlike_says : (b : Bool) (x y : ℕ) → unlike b x y ≡ true → (b ≡ true) × (x ≡ y → ⊥)
unlike_says true x y e = (refl, go (eqb x y) refl e)
  where
    go : (t : Bool) → eqb x y ≡ t → not t ≡ true → x ≡ y → ⊥
    go true p h = λ same. let z : ◌≡◌ {A = ℕ} 0 1 = ap (λ (c : Bool). cond c 1 0) h in omega arith
    go false p h = eqb-false x y p
unlike_says false x y e = let z : ◌≡◌ {A = ℕ} 0 1 = ap (λ (c : Bool). cond c 1 0) e in absurd (omega arith)

says_unlike : (b : Bool) (x y : ℕ) → b ≡ true → (x ≡ y → ⊥) → unlike b x y ≡ true
says_unlike b x y e other = rw (e, ne_eqb x y other)

-- a return number that cannot be
odd_says : (m : Mark) → is_odd m ≡ true → (m.number ≡ 0) ⊎ (m.«of» < m.number)
odd_says m e = go (eqb m.number 0) refl e
  where
    go : (b : Bool) → eqb m.number 0 ≡ b → (b || ltb m.«of» m.number) ≡ true → (m.number ≡ 0) ⊎ (m.«of» < m.number)
    go true p h = inl (eqb-true m.number 0 p)
    go false p h = inr (ltb-true m.«of» m.number h)

says_odd : (m : Mark) → (m.number ≡ 0) ⊎ (m.«of» < m.number) → is_odd m ≡ true
says_odd m (inl zero_number) = rw (eq-eqb m.number 0 zero_number)
says_odd m (inr above) = go (eqb m.number 0)
  where
    go : (b : Bool) → (b || ltb m.«of» m.number) ≡ true
    go true = refl
    go false = lt-ltb m.«of» m.number above

-- the texts of a part
module _ (s : List ℕ) (f : Finding) where
  among_texts : {A : Type 0} (k start first width second : ℕ) → (Untidy (take width (drop (start + first) s)) → f ≡ finding 5 k 0 (start + first) → A)
      → (Untidy (take 32 (drop (start + second) s)) → f ≡ finding 5 k 0 (start + second) → A) → Among f (texts_at s k start first width second) → A
  unfolding texts_at text_at
  among_texts {A} k start first width second one two =
      among_split f (when (rest_of (take width (drop (start + first) s))) (spot 5 k (start + first))) (when (rest_of (take 32 (drop (start + second) s))) (spot 5 k (start + second)))
      (λ a. let (rest, is) = among_when f _ (spot 5 k (start + first)) a in one ((rest_exactly (take width (drop (start + first) s))).0 rest) is)
      (λ a. let (rest, is) = among_when f _ (spot 5 k (start + second)) a in two ((rest_exactly (take 32 (drop (start + second) s))).0 rest) is)

  first_among : (k start first width second : ℕ) → Untidy (take width (drop (start + first) s)) → f ≡ finding 5 k 0 (start + first) → Among f (texts_at s k start first width second)
  unfolding texts_at text_at
  first_among k start first width second u is =
      among_left f (when (rest_of (take width (drop (start + first) s))) (spot 5 k (start + first))) _ (when_among f _ (spot 5 k (start + first)) ((rest_exactly (take width (drop (start + first) s))).1 u) is)

  second_among : (k start first width second : ℕ) → Untidy (take 32 (drop (start + second) s)) → f ≡ finding 5 k 0 (start + second) → Among f (texts_at s k start first width second)
  unfolding texts_at text_at
  second_among k start first width second u is =
      among_right f (when (rest_of (take width (drop (start + first) s))) (spot 5 k (start + first))) _ (when_among f _ (spot 5 k (start + second)) ((rest_exactly (take 32 (drop (start + second) s))).1 u) is)

  -- of the parts one after the other
  module _ (v : Survey) where
    among_from : {A : Type 0} (j : ℕ) (ps : List Part) → ((k : ℕ) (q : Part) → Entry j ps k q → Among f (found_in s v k q) → A) → Among f (found_from s v j ps) → A
    unfolding found_from
    among_from j [] h a = absurd a
    among_from j (p ∷ ps) h a =
        among_split f (found_in s v j p) (found_from s v (suc j) ps) (λ b. h j p (inl (refl, refl)) b)
        (λ b. among_from (suc j) ps (λ k q e c. h k q (inr e) c) b) a

    from_among : (j : ℕ) (ps : List Part) (k : ℕ) (q : Part) → Entry j ps k q → Among f (found_in s v k q) → Among f (found_from s v j ps)
    unfolding found_from
    from_among j [] k q e a = absurd e
    from_among j (p ∷ ps) k q (inl (number_is, part_is)) a =
        among_left f (found_in s v j p) (found_from s v (suc j) ps) (subst (λ (n : ℕ). Among f (found_in s v n p)) number_is (subst (λ (x : Part). Among f (found_in s v k x)) part_is a))
    from_among j (p ∷ ps) k q (inr e) a = among_right f (found_in s v j p) (found_from s v (suc j) ps) (from_among (suc j) ps k q e a)

-- what is so of each part is so of each entry
each-entry : (P : Part → Type 0) (j : ℕ) (ps : List Part) (k : ℕ) (q : Part) → Each P ps → Entry j ps k q → P q
each-entry P j [] k q each e = absurd e
each-entry P j (p ∷ ps) k q (here, each) (inl (number_is, part_is)) = subst P (sym part_is) here
each-entry P j (p ∷ ps) k q (here, each) (inr e) = each-entry P (suc j) ps k q each e

-- the kinds but the header's
abbrev headers : Kind → ℕ
headers Header = 1
headers Vlr = 0
headers Gap = 0
headers Points = 0
headers Evlr = 0
headers Waveform = 0

other-kind : (x : Kind) → headers x ≡ 0 → x ≡ Header → ⊥
other-kind x e is = let z : ◌≡◌ {A = ℕ} 0 1 = sym e ∙ ap headers is in omega arith

-- of a file that is accepted
module _ (allowance : ℕ) (s : List ℕ) {n : ℕ} (accepted : checked_of allowance s ≡ Ok n) (f : Finding) where
  abbrev o : Outline
  o = outline_in s

  abbrev v : Survey
  v = survey_in s

  -- the header is the first part, and no other
  only_header : (k : ℕ) (q : Part) → Entry 1 (parts_of o s) k q → q.kind ≡ Header → (k ≡ 1) × (q.start ≡ 0)
  only_header k q e is = go (subst (λ (ps : List Part). Entry 1 ps k q) (header_first o s) e)
    where
      others : Each (λ p. p.kind ≡ Header → ⊥) (body_of o s)
      others =
          each_part (λ p. p.kind ≡ Header → ⊥) (λ from to. other-kind Gap refl) s o (laid allowance s accepted) (λ at to whole. other-kind Vlr refl) (λ at to whole. other-kind Evlr refl)
          (λ at to whole. other-kind Waveform refl) (other-kind Points refl)

      go : Entry 1 (part Header 0 o.header_size ∷ body_of o s) k q → (k ≡ 1) × (q.start ≡ 0)
      go (inl (number_is, part_is)) = (number_is, ap (λ (p : Part). p.start) part_is)
      go (inr later) = absurd (each-entry (λ p. p.kind ≡ Header → ⊥) 2 (body_of o s) k q others later is)

  -- what the survey says
  points : (v.extended ≡ leb 6 o.point_data_record_format) × (v.at ≡ o.offset_to_point_data) × (v.each ≡ o.point_data_record_length) × (v.count ≡ o.number_of_point_records)
  points = survey_points (leb 6 o.point_data_record_format) o.offset_to_point_data o.point_data_record_length o.number_of_point_records s

  have : (r : ℕ) → r ≤ 15 → get_or v.returns.numbers r 0 ≡ have_return s r
  have r h = survey_number (leb 6 o.point_data_record_format) o.offset_to_point_data o.point_data_record_length o.number_of_point_records s r (omega arith)

  new_format : v.extended ≡ true → 6 ≤ o.point_data_record_format
  new_format is = leb-true 6 o.point_data_record_format (sym points.0 ∙ is)

  format_new : 6 ≤ o.point_data_record_format → v.extended ≡ true
  format_new h = points.0 ∙ le-leb 6 o.point_data_record_format h

  -- the version
  version_four : is_large s ≡ true → number VersionMinor s ≡ 4
  unfolding is_large
  version_four e = eqb-true (num 1 25 s) 4 e

  four_version : number VersionMinor s ≡ 4 → is_large s ≡ true
  unfolding is_large
  four_version e = eq-eqb (num 1 25 s) 4 e

  version_less : not (is_large s) ≡ true → number VersionMinor s ≡ 4 → ⊥
  version_less e four = let z : ◌≡◌ {A = ℕ} 0 1 = ap (λ (b : Bool). cond (not b) 1 0) (sym (four_version four)) ∙ ap (λ (b : Bool). cond b 1 0) e in omega arith

  less_version : (number VersionMinor s ≡ 4 → ⊥) → not (is_large s) ≡ true
  unfolding is_large
  less_version other = rw (ne_eqb (num 1 25 s) 4 other)

  -- the counters
  abbrev e : Bool
  e = v.extended

  abbrev numbers : List ℕ
  numbers = v.returns.numbers

  from_first : Among f (legacy_first s e (is_large s) 1) → Broken s f
  unfolding legacy_first
  from_first =
      among_split f (when (unlike e (num 4 107 s) 0) (spot 1 1 107)) (when (unlike (unlike (is_large s) (num 4 107 s) 0) (num 4 107 s) (num 8 247 s)) (spot 2 1 107))
      (λ a.
      let (broken, is) = among_when f _ (spot 1 1 107) a in
      let (new, some) = unlike_says e (num 4 107 s) 0 broken in
      legacy 0 (omega arith) (new_format new) some is)
      (λ a.
      let (broken, is) = among_when f _ (spot 2 1 107) a in
      let (compared, other) = unlike_says (unlike (is_large s) (num 4 107 s) 0) (num 4 107 s) (num 8 247 s) broken in
      let (four, some) = unlike_says (is_large s) (num 4 107 s) 0 compared in
      unlike-large (version_four four) some other is)

  from-legacies : Among f (legacies s e (is_large s) numbers 1) → Broken s f
  unfolding legacies legacy_at
  from-legacies a =
      let (r, low, high, b) = among_through f (legacy_at s e (is_large s) numbers 1) 1 5 a in
      let stated = num 4 (107 + 4 * r) s in
      among_split f (when (unlike e stated 0) (spot 1 1 (107 + 4 * r))) (when (unlike (not (is_large s)) stated (get_or numbers r 0)) (spot 3 1 (107 + 4 * r)))
      (λ c.
      let (broken, is) = among_when f _ (spot 1 1 (107 + 4 * r)) c in
      let (new, some) = unlike_says e stated 0 broken in
      legacy r (omega arith) (new_format new) some is)
      (λ c.
      let (broken, is) = among_when f _ (spot 3 1 (107 + 4 * r)) c in
      let (old, other) = unlike_says (not (is_large s)) stated (get_or numbers r 0) broken in
      five r low (omega arith) (version_less old) (λ same. other (same ∙ sym (have r (omega arith)))) is)
      b

  from-larges : is_large s ≡ true → Among f (larges s numbers 1) → Broken s f
  unfolding larges large_at
  from-larges four a =
      let (r, low, high, b) = among_through f (large_at s numbers 1) 1 15 a in
      let (broken, is) = among_when f _ (spot 3 1 (247 + 8 * r)) b in
      let (compared, other) = unlike_says true (num 8 (247 + 8 * r) s) (get_or numbers r 0) broken in
      large r low (omega arith) (version_four four) (λ same. other (same ∙ sym (have r (omega arith)))) is

  from-counters : Among f (counters s e numbers 1) → Broken s f
  unfolding counters
  from-counters =
      among_split f (legacy_first s e (is_large s) 1) _ from_first
      (among_split f (legacies s e (is_large s) numbers 1) _ from-legacies (go (is_large s) refl))
    where
      go : (b : Bool) → is_large s ≡ b → Among f (cond b (larges s numbers 1) []) → Broken s f
      go true four a = from-larges four a
      go false old a = absurd a

  -- the points
  place_is : (j : ℕ) → v.at + j * v.each ≡ point_place s (j + 1)
  place_is j =
      let back : j ≡ j + 1 - 1 = omega arith in
      λ i. points.1 i + back i * points.2 i

  mark_is : (j : ℕ) → mark_of v.extended (take v.each (drop (v.at + j * v.each) s)) ≡ mark_at s (j + 1)
  mark_is j = λ i. mark_of (points.0 i) (take (points.2 i) (drop (place_is j i) s))

  from-points : (k : ℕ) (q : Part) → Entry 1 (parts_of o s) k q → q.kind ≡ Points → Among f (odd_points s v k) → Broken s f
  unfolding odd_points point_at odd_in
  from-points k q entry kind a =
      let (j, low, high, b) = among_through f (point_at s v.extended v.at v.each k) 0 v.count a in
      let (odd, is) = among_when f _ (finding 4 k (j + 1) (v.at + j * v.each)) b in
      return-number k (j + 1) q entry kind (omega arith) (omega (arith, points.3)) (odd_says (mark_at s (j + 1)) (sym (ap is_odd (mark_is j)) ∙ odd))
      (is ∙ ap (finding 4 k (j + 1)) (place_is j))

  -- any part
  from-kind : (k : ℕ) (q : Part) → Entry 1 (parts_of o s) k q → (x : Kind) → q.kind ≡ x → Among f (found_as s v x k q.start) → Broken s f
  from-kind k q entry Header kind =
      among_split f (texts_at s k q.start 26 32 58) (counters s e numbers k)
      (among_texts s f k q.start 26 32 58 (text k 26 32 q entry (subst (λ (x : Kind). TextField x 26 32) (sym kind) (inl (refl, refl)))) (text k 58 32 q entry (subst (λ (x : Kind). TextField x 58 32) (sym kind) (inr (refl, refl)))))
      (λ a. from-counters (subst (λ (m : ℕ). Among f (counters s e numbers m)) (only_header k q entry kind).0 a))
  from-kind k q entry Vlr kind =
      among_texts s f k q.start 2 16 22 (text k 2 16 q entry (subst (λ (x : Kind). TextField x 2 16) (sym kind) (inl (refl, refl)))) (text k 22 32 q entry (subst (λ (x : Kind). TextField x 22 32) (sym kind) (inr (refl, refl))))
  from-kind k q entry Gap kind = λ a. absurd a
  from-kind k q entry Points kind = from-points k q entry kind
  from-kind k q entry Evlr kind =
      among_texts s f k q.start 2 16 28 (text k 2 16 q entry (subst (λ (x : Kind). TextField x 2 16) (sym kind) (inl (refl, refl)))) (text k 28 32 q entry (subst (λ (x : Kind). TextField x 28 32) (sym kind) (inr (refl, refl))))
  from-kind k q entry Waveform kind =
      among_texts s f k q.start 2 16 28 (text k 2 16 q entry (subst (λ (x : Kind). TextField x 2 16) (sym kind) (inl (refl, refl)))) (text k 28 32 q entry (subst (λ (x : Kind). TextField x 28 32) (sym kind) (inr (refl, refl))))

  -- each that is told is so,
  pub told_broken : Among f (found_of s) → Broken s f
  unfolding found_of found_in
  told_broken = among_from s f v 1 (parts_of o s) (λ k q entry a. from-kind k q entry q.kind refl a)

  -- and what is so is told
  in_part : (k : ℕ) (q : Part) → Entry 1 (parts_of o s) k q → Among f (found_as s v q.kind k q.start) → Among f (found_of s)
  unfolding found_of found_in
  in_part k q entry a = from_among s f v 1 (parts_of o s) k q entry a

  in_counters : Among f (counters s e numbers 1) → Among f (found_of s)
  in_counters a =
      in_part 1 (part Header 0 o.header_size) (subst (λ (ps : List Part). Entry 1 ps 1 (part Header 0 o.header_size)) (sym (header_first o s)) (inl (refl, refl)))
      (among_right f (texts_at s 1 0 26 32 58) (counters s e numbers 1) a)

  in_first : Among f (legacy_first s e (is_large s) 1) → Among f (found_of s)
  unfolding counters
  in_first a = in_counters (among_left f (legacy_first s e (is_large s) 1) _ a)

  in_legacies : Among f (legacies s e (is_large s) numbers 1) → Among f (found_of s)
  unfolding counters
  in_legacies a = in_counters (among_right f (legacy_first s e (is_large s) 1) _ (among_left f (legacies s e (is_large s) numbers 1) _ a))

  in_larges : is_large s ≡ true → Among f (larges s numbers 1) → Among f (found_of s)
  unfolding counters
  in_larges four a =
      in_counters (among_right f (legacy_first s e (is_large s) 1) _ (among_right f (legacies s e (is_large s) numbers 1) _ (subst (λ (b : Bool). Among f (cond b (larges s numbers 1) [])) (sym four) a)))

  legacy_told : (i : ℕ) → i ≤ 5 → 6 ≤ o.point_data_record_format → (num 4 (107 + 4 * i) s ≡ 0 → ⊥) → f ≡ finding 1 1 0 (107 + 4 * i) → Among f (found_of s)
  unfolding legacy_first legacies legacy_at
  legacy_told zero h new some is =
      in_first (among_left f (when (unlike e (num 4 107 s) 0) (spot 1 1 107)) _ (when_among f _ (spot 1 1 107) (says_unlike e (num 4 107 s) 0 (format_new new) some) is))
  legacy_told (suc i) h new some is =
      let at = 107 + 4 * suc i in
      in_legacies
      (through_among f (legacy_at s e (is_large s) numbers 1) 1 5 (suc i) (omega arith) (omega arith)
      (among_left f (when (unlike e (num 4 at s) 0) (spot 1 1 at)) _ (when_among f _ (spot 1 1 at) (says_unlike e (num 4 at s) 0 (format_new new) some) is)))

  pub broken_told : Broken s f → Among f (found_of s)
  unfolding legacy_first legacies legacy_at larges large_at odd_points point_at odd_in
  broken_told (legacy i h new some is) = legacy_told i h new some is
  broken_told (unlike-large four some other is) =
      in_first
      (among_right f (when (unlike e (num 4 107 s) 0) (spot 1 1 107)) _
      (when_among f _ (spot 2 1 107) (says_unlike (unlike (is_large s) (num 4 107 s) 0) (num 4 107 s) (num 8 247 s) (says_unlike (is_large s) (num 4 107 s) 0 (four_version four) some) other) is))
  broken_told (large r low high four other is) =
      let at = 247 + 8 * r in
      in_larges (four_version four)
      (through_among f (large_at s numbers 1) 1 15 r low (omega arith)
      (when_among f _ (spot 3 1 at) (says_unlike true (num 8 at s) (get_or numbers r 0) refl (λ same. other (same ∙ have r (omega arith)))) is))
  broken_told (five r low high old other is) =
      let at = 107 + 4 * r in
      in_legacies
      (through_among f (legacy_at s e (is_large s) numbers 1) 1 5 r low (omega arith)
      (among_right f (when (unlike e (num 4 at s) 0) (spot 1 1 at)) _
      (when_among f _ (spot 3 1 at) (says_unlike (not (is_large s)) (num 4 at s) (get_or numbers r 0) (less_version old) (λ same. other (same ∙ have r (omega arith)))) is)))
  broken_told (return-number k p q entry kind low high odd is) =
      let j = p - 1 in
      let back : j + 1 ≡ p = omega arith in
      let at = v.at + j * v.each in
      let place : at ≡ point_place s p = place_is j ∙ ap (point_place s) back in
      let mark : mark_of v.extended (take v.each (drop at s)) ≡ mark_at s p = mark_is j ∙ ap (mark_at s) back in
      in_part k q entry
      (subst (λ (x : Kind). Among f (found_as s v x k q.start)) (sym kind)
      (through_among f (point_at s v.extended v.at v.each k) 0 v.count j (omega arith) (omega (arith, points.3))
      (when_among f _ (finding 4 k (j + 1) at) (ap is_odd mark ∙ says_odd (mark_at s p) odd) (is ∙ (λ i. finding 4 k (sym back i) (sym place i))))))
  broken_told (text k at w q entry field untidy is) = in_part k q entry (go q.kind field)
    where
      two : (first width second : ℕ) → ((at ≡ first) × (w ≡ width)) ⊎ ((at ≡ second) × (w ≡ 32)) → Among f (texts_at s k q.start first width second)
      two first width second (inl (a, b)) =
          first_among s f k q.start first width second (subst (λ (m : ℕ). Untidy (take m (drop (q.start + first) s))) b (subst (λ (m : ℕ). Untidy (take w (drop (q.start + m) s))) a untidy)) (is ∙ ap (λ (m : ℕ). finding 5 k 0 (q.start + m)) a)
      two first width second (inr (a, b)) =
          second_among s f k q.start first width second (subst (λ (m : ℕ). Untidy (take m (drop (q.start + second) s))) b (subst (λ (m : ℕ). Untidy (take w (drop (q.start + m) s))) a untidy)) (is ∙ ap (λ (m : ℕ). finding 5 k 0 (q.start + m)) a)

      go : (x : Kind) → TextField x at w → Among f (found_as s v x k q.start)
      go Header t = among_left f (texts_at s k q.start 26 32 58) _ (two 26 32 58 t)
      go Vlr t = two 2 16 22 t
      go Gap t = absurd t
      go Points t = absurd t
      go Evlr t = two 2 16 28 t
      go Waveform t = two 2 16 28 t
