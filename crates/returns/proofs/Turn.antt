-- One record, and the rest of them: a turn of the count.
use Prim.Native.Nat.{ℕ, zero, suc, ◌+◌, ◌*◌, ◌-◌, ◌≤◌, ◌<◌}
use mathlib.Core.Path.{◌≡◌, refl, ap, sym, ◌∙◌}
use mathlib.Core.Bool.{Bool, true, false, cond}
use mathlib.Core.List.{List, ◌++◌}
use native.Mathlib.Nat.{zero-add, zero-mul, suc-mul}
use native.Mathlib.Omega.{arith}
use borrow.Author.Tests.{eqb-true, eqb-false, eq-eqb}
use mir.Val.{bool_byte}
use lib.Dec.{eqb}
use lib.ListN.{length, set, get_or, length-set, length-append}
use lib.Seq.{get_or-set_same, get_or-set_other, ext_get_or}
use Rattle.lent.specs.Laws.{less_one}
use Rattle.returns.specs.declared.Mark.{Mark}
use Rattle.returns.specs.Returns.{mark_of, is_odd, odd_in, have_of, odd_of, values_of}
use Rattle.returns.specs.Laws.{number_small, length_values, value-at, have_most, odd_most, odd_split, have_split}

-- a yes as a number
pub as_number : (b : Bool) → bool_byte b ≡ cond b 1 0
as_number true = refl
as_number false = refl

-- before a turn: what is counted so far, and of the records that are left, is what is to be counted
pub record Counting (e : Bool) (m n : ℕ) (s : List ℕ) (numbers : List ℕ) (odd size left : ℕ) (rest : List ℕ) : Type 0 where
  pub by : size ≡ m
  pub ahead : length rest ≡ left * m
  pub sized : length numbers ≡ 16
  pub each : (r : ℕ) → r < 16 → get_or numbers r 0 + have_of e m r left rest ≡ have_of e m r n s
  pub odds : odd + odd_of e m left rest ≡ odd_of e m n s

-- where there is a record, some are left, and where there is not, none
some_left : (left m k : ℕ) → left * m ≡ m + k → 0 < m → 0 < left
some_left zero m k e some = absurd (omega (arith, e, zero-mul m))
some_left (suc left) m k e some = omega arith

no_more : (left m : ℕ) → left * m < m → left ≡ 0
no_more zero m h = refl
no_more (suc left) m h = absurd (omega (arith, h, suc-mul left m))

module _ {e : Bool} {m n : ℕ} {s numbers : List ℕ} {odd size left : ℕ} {rest : List ℕ} (now next : List ℕ) (inv : Counting e m n s numbers odd size left rest) (some : 0 < m) (cut : rest ≡ now ++ next) (long : length now ≡ size) (x : Mark) (is : x ≡ mark_of e now) where
  m_long : length now ≡ m
  m_long = long ∙ inv.by

  lengths : left * m ≡ m + length next
  lengths = omega (arith, ap length cut, length-append now next, m_long, inv.ahead)

  more : 0 < left
  more = some_left left m (length next) lengths some

  pub small : x.number < 16
  small = rw is (number_small e now)

  -- the record adds one to its number's count
  one : (r : ℕ) → have_of e m r left rest ≡ cond (eqb x.number r) 1 0 + have_of e m r (left - 1) next
  one r = rw (cut, is) (have_split e m now next m_long r left more)

  pub number_fits : get_or numbers x.number 0 + 1 ≤ n
  number_fits =
      let t : ◌≡◌ {A = ℕ} (cond (eqb x.number x.number) 1 0) 1 = rw (eq-eqb x.number x.number refl) in
      omega (arith, one x.number, t, inv.each x.number small, have_most e m x.number n s)

  odd_one : odd_of e m left rest ≡ cond (is_odd x) 1 0 + odd_of e m (left - 1) next
  unfolding odd_in
  odd_one = rw (cut, is) (odd_split e m now next m_long left more)

  pub odd_fits : {k : ℕ} → k ≡ cond (is_odd x) 1 0 → odd + k ≤ n
  odd_fits k-is = omega (arith, odd_one, inv.odds, odd_most e m n s)

  pub turn : {k size₁ left₁ : ℕ} → k ≡ cond (is_odd x) 1 0 → size₁ ≡ size → left₁ ≡ left - 1 → Counting e m n s (set numbers x.number (get_or numbers x.number 0 + 1)) (odd + k) size₁ left₁ next
  turn k-is same fewer =
      record {
        by = same ∙ inv.by;
        ahead = rw fewer (omega (arith, lengths, less_one left m more));
        sized = length-set numbers x.number _ ∙ inv.sized;
        each = λ r h. rw fewer (go r h (eqb x.number r) refl);
        odds = rw fewer (omega (arith, odd_one, inv.odds));
      }
    where
      go : (r : ℕ) → r < 16 → (b : Bool) → eqb x.number r ≡ b → get_or (set numbers x.number (get_or numbers x.number 0 + 1)) r 0 + have_of e m r (left - 1) next ≡ have_of e m r n s
      go r h true t =
          let same : x.number ≡ r = eqb-true _ _ t in
          let adds : have_of e m r left rest ≡ 1 + have_of e m r (left - 1) next = one r ∙ rw t in
          rw (same, get_or-set_same numbers r (get_or numbers r 0 + 1) 0 (omega (arith, inv.sized))) (omega (arith, inv.each r h))
      go r h false t =
          let adds : have_of e m r left rest ≡ have_of e m r (left - 1) next = one r ∙ rw t (zero-add _) in
          rw (get_or-set_other numbers x.number r (get_or numbers x.number 0 + 1) 0 (λ e. eqb-false _ _ t (sym e))) (omega (arith, inv.each r h))

-- no record is left
module _ {e : Bool} {m n : ℕ} {s numbers : List ℕ} {odd size left : ℕ} {rest : List ℕ} (inv : Counting e m n s numbers odd size left rest) (short : length rest < size) where
  none : left ≡ 0
  none = no_more left m (omega (arith, inv.by, inv.ahead))

  pub all-numbers : numbers ≡ values_of (λ r. have_of e m r n s) 0 16
  unfolding have_of
  all-numbers =
      ext_get_or 0 numbers (values_of (λ r. have_of e m r n s) 0 16) (inv.sized ∙ sym (length_values _ 0 16))
      (λ i h. rw (value-at (λ r. have_of e m r n s) 0 16 i (omega (arith, inv.sized)), zero-add) (omega (arith, rw none at (inv.each i (omega (arith, inv.sized))))))

  pub all_odd : odd ≡ odd_of e m n s
  unfolding odd_of
  all_odd = omega (arith, rw none at inv.odds)
