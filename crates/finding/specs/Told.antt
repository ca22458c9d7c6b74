-- Findings told into a lent buffer of numbers, one after the other: each is stored where there is room for it, and counted; and the laws of that.
use Rattle.std.specs.Prelude.{ℕ, zero, suc, ◌+◌, ◌-◌, ◌*◌, ◌/◌, ◌≤◌, ◌<◌, ◌≡◌, refl, Bool, true, false, cond, List, [], ◌∷◌, ◌++◌, ltb, leb, length, drop}
use Rattle.std.proofs.Common.{ap, sym, ◌∙◌, add-zero, add-one, arith, lt-ltb, le-ltb, leb-true, leb-false}
use Rattle.std.proofs.lemmas.List.Edits.{sets}
use Rattle.std.proofs.Math.Seq.{length-sets}
use Rattle.lent.specs.Laws.{sets_append, whole}
use Rattle.finding.specs.declared.Finding.{Finding}
use Rattle.finding.specs.Rules.{when, through}

-- "four numbers a finding"
abbrev pub numbers_of : Finding → List ℕ
numbers_of f = f.rule ∷ f.part ∷ f.point ∷ f.at ∷ []

abbrev pub all_numbers : List Finding → List ℕ
all_numbers [] = []
all_numbers (f ∷ fs) = numbers_of f ++ all_numbers fs

-- one more after n others, where there is room for it
unfoldable pub stored : Finding → ℕ → List ℕ → List ℕ
stored f n d = cond (ltb n (length d / 4)) (sets d (n * 4) (numbers_of f)) d

-- a count and so many more; it stops at the largest number of 64 bits
unfoldable pub plus : ℕ → ℕ → ℕ
plus n more = cond (ltb (18446744073709551615 - n) more) 18446744073709551615 (n + more)

-- how many were told, and the buffer
unfoldable pub told : List Finding → ℕ × List ℕ → ℕ × List ℕ
told [] w = w
told (f ∷ fs) w = told fs (plus w.0 1, stored f w.0 w.1)

-- one list of findings, then another
pub told-append : (fs gs : List Finding) (w : ℕ × List ℕ) → told (fs ++ gs) w ≡ told gs (told fs w)
unfolding told
told-append [] gs w = refl
told-append (f ∷ fs) gs w = told-append fs gs (plus w.0 1, stored f w.0 w.1)

pub told_none : (w : ℕ × List ℕ) → told [] w ≡ w
unfolding told
told_none w = refl

-- counts that stop
pub plus-fits : (n more : ℕ) → n + more ≤ 18446744073709551615 → plus n more ≡ n + more
unfolding plus
plus-fits n more h = rw (le-ltb (18446744073709551615 - n) more (omega arith))

pub plus_none : (n : ℕ) → plus n 0 ≡ n
unfolding plus
plus_none n = rw (le-ltb (18446744073709551615 - n) 0 (omega arith)) (add-zero n)

plus_stops : (n more : ℕ) → 18446744073709551615 < n + more → 0 < more → plus n more ≡ 18446744073709551615
unfolding plus
plus_stops n more h some = rw (lt-ltb (18446744073709551615 - n) more (omega arith))

plus-next : (n more : ℕ) → plus (plus n 1) more ≡ plus n (suc more)
plus-next n more = go (leb (suc n) 18446744073709551615) refl
  where
    stopped : (m : ℕ) → plus 18446744073709551615 m ≡ 18446744073709551615
    stopped zero = plus_none 18446744073709551615
    stopped (suc m) = plus_stops 18446744073709551615 (suc m) (omega arith) (omega arith)

    some : suc n ≤ 18446744073709551615 → (m : ℕ) → 18446744073709551615 < n + suc m → plus (n + 1) m ≡ plus n (suc m)
    some h zero above = absurd (omega arith)
    some h (suc m) above = plus_stops (n + 1) (suc m) (omega arith) (omega arith) ∙ sym (plus_stops n (suc (suc m)) (omega arith) (omega arith))

    sum : suc n ≤ 18446744073709551615 → (b : Bool) → leb (n + suc more) 18446744073709551615 ≡ b → plus (n + 1) more ≡ plus n (suc more)
    sum h true e =
        let le = leb-true (n + suc more) 18446744073709551615 e in
        plus-fits (n + 1) more (omega arith) ∙ (omega arith) ∙ sym (plus-fits n (suc more) le)
    sum h false e = some h more (leb-false (n + suc more) 18446744073709551615 e)

    go : (b : Bool) → leb (suc n) 18446744073709551615 ≡ b → plus (plus n 1) more ≡ plus n (suc more)
    go true e =
        let le = leb-true (suc n) 18446744073709551615 e in
        rw (plus-fits n 1 (omega arith)) (sum le (leb (n + suc more) 18446744073709551615) refl)
    go false e =
        let above = leb-false (suc n) 18446744073709551615 e in
        rw (plus_stops n 1 (omega arith) (omega arith)) (stopped more ∙ sym (plus_stops n (suc more) (omega arith) (omega arith)))

stored-length : (f : Finding) (n : ℕ) (d : List ℕ) → length (stored f n d) ≡ length d
unfolding stored
stored-length f n d = go (ltb n (length d / 4))
  where
    go : (b : Bool) → length (cond b (sets d (n * 4) (numbers_of f)) d) ≡ length d
    go true = length-sets d (n * 4) (numbers_of f)
    go false = refl

-- where there is room, and where there is none
module _ (f : Finding) (n : ℕ) (d : List ℕ) where
  pub stored_there : (n + 1) * 4 ≤ length d → stored f n d ≡ sets d (n * 4) (numbers_of f)
  unfolding stored
  stored_there h = rw (lt-ltb n (length d / 4) (omega arith))

  pub stored-nowhere : length d < (n + 1) * 4 → stored f n d ≡ d
  unfolding stored
  stored-nowhere h = rw (le-ltb n (length d / 4) (omega arith))

-- the buffer keeps its length
pub told-length : (fs : List Finding) (w : ℕ × List ℕ) → length (told fs w).1 ≡ length w.1
unfolding told
told-length [] w = refl
told-length (f ∷ fs) w = told-length fs (plus w.0 1, stored f w.0 w.1) ∙ stored-length f w.0 w.1

-- with room for none they are only counted
pub told-nowhere : (fs : List Finding) (n : ℕ) (d : List ℕ) → length d < 4 → told fs (n, d) ≡ (plus n (length fs), d)
unfolding told stored
told-nowhere [] n d h = rw plus_none
told-nowhere (f ∷ fs) n d h =
    let none : length d / 4 ≡ 0 = omega arith in
    rw (none, le-ltb n 0 (omega arith)) (told-nowhere fs (plus n 1) d h ∙ rw plus-next)

-- with room for all they are stored one after the other
told-after : (fs : List Finding) (n : ℕ) (d : List ℕ) → (n + length fs) * 4 ≤ length d → n + length fs ≤ 18446744073709551615 → told fs (n, d) ≡ (n + length fs, sets d (n * 4) (all_numbers fs))
unfolding told
told-after [] n d h few = rw add-zero
told-after (f ∷ fs) n d h few =
    let room : stored f n d ≡ sets d (n * 4) (numbers_of f) = stored_there f n d (omega arith) in
    let l : length (sets d (n * 4) (numbers_of f)) ≡ length d = length-sets d (n * 4) (numbers_of f) in
    let e : n + 1 + length fs ≡ n + suc (length fs) = omega arith in
    let to : (n + 1) * 4 ≡ n * 4 + 4 = omega arith in
    rw (room, plus-fits n 1 (omega arith), ← e) (told-after fs (n + 1) (sets d (n * 4) (numbers_of f)) (omega arith) (omega arith) ∙ rw to (ap (λ (b : List ℕ). (n + 1 + length fs, b)) (sym (sets_append d (numbers_of f) (all_numbers fs) (n * 4)))))

length-numbers : (fs : List Finding) → length (all_numbers fs) ≡ length fs * 4
length-numbers [] = refl
length-numbers (f ∷ fs) = omega (arith, length-numbers fs)

pub told-all : (fs : List Finding) (d : List ℕ) → length fs * 4 ≤ length d → length fs ≤ 18446744073709551615 → told fs (0, d) ≡ (length fs, all_numbers fs ++ drop (length fs * 4) d)
told-all fs d h few =
    told-after fs 0 d (omega arith) (omega arith)
    ∙ rw (whole d (all_numbers fs) (length fs * 4) (length-numbers fs) h) (ap (λ (n : ℕ). (n, all_numbers fs ++ drop (length fs * 4) d)) (omega arith))

-- what is told of two lists, put together
pub both : (fs gs : List Finding) (n : ℕ) (d : List ℕ) {m r : ℕ} {e b : List ℕ} → (m, e) ≡ told fs (n, d) → (r, b) ≡ told gs (m, e) → (r, b) ≡ told (fs ++ gs) (n, d)
both fs gs n d p q = q ∙ ap (told gs) p ∙ sym (told-append fs gs (n, d))

-- of one finding
pub told-when : (w : ℕ × List ℕ) {b c : Bool} {f g : Finding} → b ≡ c → f ≡ g → told (when b f) w ≡ told (when c g) w
told-when w p q = λ i. told (when (p i) (q i)) w

-- what a rule gives at place i, and at the places after it
pub through-next : (f : ℕ → List Finding) (i k : ℕ) → 0 < k → through f i k ≡ f i ++ through f (i + 1) (k - 1)
unfolding through
through-next f i zero h = absurd (omega arith)
through-next f i (suc k) h =
    let less : suc k - 1 ≡ k = omega arith in
    rw (less, add-one)

-- before turn i of a loop that tells what a rule gives at `count` places, the first being `first`, into d₀ after n₀ others
pub record Telling (f : ℕ → List Finding) (first count n₀ : ℕ) (d₀ : List ℕ) (n : ℕ) (d : List ℕ) (i : ℕ) : Type 0 where
  pub low : first ≤ i
  pub high : i ≤ first + count
  pub kept : length d ≡ length d₀
  pub so_far : told (through f i (first + count - i)) (n, d) ≡ told (through f first count) (n₀, d₀)

module _ (f : ℕ → List Finding) (first count n₀ : ℕ) (d₀ : List ℕ) where
  pub telling : Telling f first count n₀ d₀ n₀ d₀ first
  telling =
      let e : first + count - first ≡ count = omega arith in
      record { low = omega arith; high = omega arith; kept = refl; so_far = rw e }

  module _ {n : ℕ} {d : List ℕ} {i : ℕ} (t : Telling f first count n₀ d₀ n d i) where
    pub told-next : {m : ℕ} {e : List ℕ} → i < first + count → (m, e) ≡ told (f i) (n, d) → Telling f first count n₀ d₀ m e (i + 1)
    told-next {m} {e} more is =
        let less : first + count - (i + 1) ≡ first + count - i - 1 = omega arith in
        record {
          low = omega (arith, t.low);
          high = omega arith;
          kept = ap (λ (w : ℕ × List ℕ). length w.1) is ∙ told-length (f i) (n, d) ∙ t.kept;
          so_far =
              rw (less, is) (sym (told-append (f i) (through f (i + 1) (first + count - i - 1)) (n, d)))
              ∙ ap (λ (fs : List Finding). told fs (n, d)) (sym (through-next f i (first + count - i) (omega arith))) ∙ t.so_far;
        }

    pub told_last : first + count ≤ i → (n, d) ≡ told (through f first count) (n₀, d₀)
    unfolding told through
    told_last h =
        let none : first + count - i ≡ 0 = omega (arith, t.high) in
        rw none at t.so_far
