-- When flags fit, what the old bytes then read, and that nothing else could be read.
use Rattle.std.specs.Prelude.{Result, Ok, Err, ℕ, ◌%◌, ◌≤◌, Bool, ◌&&◌, ltb}
use Rattle.std.proofs.Math.Path.{◌≡◌, refl}
use Rattle.std.proofs.Common.{ap, sym, subst, ◌∙◌}
use Rattle.std.proofs.Math.Bool.{true, false, not, cond}
use Rattle.std.specs.Bool.{beq}
use native.Mathlib.Omega.{arith}
use borrow.Author.Tests.{ltb-false, le-ltb, eqb-true, eqb-false, eq-eqb, ne_eqb}
use Rattle.std.proofs.Math.Dec.{eqb}
use Rattle.refusal.specs.declared.Refusal.{Refusal}
use Rattle.flags.specs.declared.Flags.{Flags}
use Rattle.flags.specs.declared.Flags.TheVariants.{TwoByte, ThreeByte}
use Rattle.flags.specs.declared.ScanDirection.TheVariants.{RightToLeft, LeftToRight}
use Rattle.flags.specs.Readings.{return_number_of, number_of_returns_of, direction_bit, edge_of, class_of, synthetic_of, key_point_of, withheld_of, overlap_of, channel_of}
use Rattle.flags.specs.Bytes.{old_first, old_second, two_bytes_of}
use Rattle.flags.specs.Laws.{two_kept, two_fits}
use Rattle.strict.specs.Fit.{overlap_goes, readings_fit, flags_fit_of}
use Rattle.strict.specs.Shown.{Shown, Down}
use Rattle.strict.specs.Made.{old-first, old_second_lem}

-- a refusal is no fit
pub not-refused : {A : Type 0} (r : Refusal) → ◌≡◌ {A = Result Unit Refusal} (Err r) (Ok tt) → A
not-refused r e = let z : ◌≡◌ {A = ℕ} 0 1 = cc in absurd (omega arith)

pub only-fits : (t : Bool) (r : Refusal) → ◌≡◌ {A = Result Unit Refusal} (cond t (Ok tt) (Err r)) (Ok tt) → t ≡ true
only-fits true r e = refl
only-fits false r e = not-refused r e

-- what holds of a refusal that a chain of tests ends in: it is a test's own, and those before it did not hold
module _ (Q : Refusal → Type 0) (why : Refusal) where
  named : (x : Refusal) → Q x → ◌≡◌ {A = Result Unit Refusal} (Err x) (Err why) → Q why
  named x q e = let same : x ≡ why = cc in subst Q same q

  pub past : (t : Bool) (x : Refusal) (y : Result Unit Refusal) → (t ≡ true → Q x) → (t ≡ false → y ≡ Err why → Q why) → cond t (Err x) y ≡ Err why → Q why
  past true x y u v e = named x (u refl) e
  past false x y u v e = v refl e

  pub last : (t : Bool) (x : Refusal) → (t ≡ false → Q x) → ◌≡◌ {A = Result Unit Refusal} (cond t (Ok tt) (Err x)) (Err why) → Q why
  last true x u e = not-refused why (sym e)
  last false x u e = named x (u refl) e

-- what the tests of five readings say together
pub record Fitting (return_number returns class channel : ℕ) (overlap : Bool) : Type 0 where
  pub return-number : return_number ≤ 7
  pub number-of-returns : returns ≤ 7
  pub class-fits : class ≤ 31
  pub no-channel : channel ≡ 0
  pub goes : overlap_goes overlap class ≡ true

module _ (r n k c : ℕ) (o : Bool) where
  pub fits_fitting : readings_fit r n k c o ≡ Ok tt → Fitting r n k c o
  unfolding readings_fit
  fits_fitting e =
      let one = passed (ltb 7 r) _ _ e in
      let two = passed (ltb 7 n) _ _ one.1 in
      let three = passed (ltb 31 k) _ _ two.1 in
      let four = passed (ltb 0 c) _ _ three.1 in
      record {
        return-number = ltb-false 7 r one.0;
        number-of-returns = ltb-false 7 n two.0;
        class-fits = ltb-false 31 k three.0;
        no-channel = omega (arith, ltb-false 0 c four.0);
        goes = only-fits (overlap_goes o k) _ four.1;
      }
    where
      passed : (t : Bool) (x : Refusal) (y : Result Unit Refusal) → cond t (Err x) y ≡ Ok tt → (t ≡ false) × (y ≡ Ok tt)
      passed true x y e = not-refused x e
      passed false x y e = (refl, e)

  pub fitting_fits : Fitting r n k c o → readings_fit r n k c o ≡ Ok tt
  unfolding readings_fit
  fitting_fits f =
      rw (le-ltb 7 r f.return-number, le-ltb 7 n f.number-of-returns, le-ltb 31 k f.class-fits, le-ltb 0 c (omega (arith, f.no-channel)), f.goes)

-- an overlap flag goes with a class exactly when both old readers take it from the class
module _ (k : ℕ) where
  pub goes_read : (o : Bool) → k ≤ 31 → overlap_goes o k ≡ true → (eqb (k % 16) 12 ≡ o) × (eqb k 12 ≡ o)
  unfolding overlap_goes
  goes_read true h e =
      let is : k ≡ 12 = eqb-true k 12 e in
      (eq-eqb (k % 16) 12 (omega arith), e)
  goes_read false h e = apart (eqb k 12) (eqb k 28) refl refl e
    where
      apart : (s t : Bool) → eqb k 12 ≡ s → eqb k 28 ≡ t → (not s && not t) ≡ true → (eqb (k % 16) 12 ≡ false) × (eqb k 12 ≡ false)
      apart true t d f e = absurd (let z : ◌≡◌ {A = ℕ} 0 1 = cc in omega arith)
      apart false true d f e = absurd (let z : ◌≡◌ {A = ℕ} 0 1 = cc in omega arith)
      apart false false d f e = (ne_eqb (k % 16) 12 (λ q. other q), d)
        where
          other : k % 16 ≡ 12 → ⊥
          other q =
              let not_12 : k ≡ 12 → ⊥ = eqb-false k 12 d in
              let not_28 : k ≡ 28 → ⊥ = eqb-false k 28 f in
              omega arith

  pub read_goes : (o : Bool) → eqb (k % 16) 12 ≡ o → eqb k 12 ≡ o → overlap_goes o k ≡ true
  unfolding overlap_goes
  read_goes true low e = e
  read_goes false low e = rw (e, ne_eqb k 28 (λ q. eqb-false (k % 16) 12 low (omega arith)))

-- the same by tests of the class: 28 goes with neither, and of the others 12 alone with an overlap
pub never_28 : (o : Bool) → overlap_goes o 28 ≡ false
unfolding overlap_goes
never_28 true = refl
never_28 false = refl

pub never_at_28 : (k : ℕ) → k ≡ 28 → (o : Bool) → overlap_goes o k ≡ false
never_at_28 k is o = ap (overlap_goes o) is ∙ never_28 o

pub says_12 : (k : ℕ) → eqb k 28 ≡ false → (o t : Bool) → eqb k 12 ≡ t → overlap_goes o k ≡ beq o t
unfolding overlap_goes
says_12 k other true true e = e
says_12 k other true false e = e
says_12 k other false true e = rw e
says_12 k other false false e = rw (e, other)

-- the two bytes of extended flags that fit
module _ (a b c : ℕ) (fits : flags_fit_of (ThreeByte a b c) ≡ Ok tt) where
  abbrev f : Flags
  f = ThreeByte a b c

  pub fitting : Fitting (return_number_of f) (number_of_returns_of f) (class_of f) (channel_of f) (overlap_of f)
  unfolding flags_fit_of
  fitting = fits_fitting _ _ _ _ _ fits

  overlap_read : (eqb (c % 16) 12 ≡ overlap_of f) × (eqb c 12 ≡ overlap_of f)
  overlap_read = goes_read c (overlap_of f) fitting.class-fits fitting.goes

  -- where the overlap flag is set the class is 12 already
  class_kept : (o : Bool) → eqb c 12 ≡ o → cond o 12 c ≡ c
  class_kept true e = sym (eqb-true c 12 e)
  class_kept false e = refl

  pub bytes-of_fitting : two_bytes_of f ≡ Ok ((old_first (return_number_of f) (number_of_returns_of f) (direction_bit f) (edge_of f)), (old_second c (synthetic_of f) (key_point_of f) (withheld_of f)))
  bytes-of_fitting =
      let said = fitting in
      two_fits a b c said.return-number said.number-of-returns said.class-fits (omega (arith, said.no-channel))
      ∙ rw (class_kept (overlap_of f) overlap_read.1)

-- flags that fit are shown whole by the two bytes of the plain conversion
pub fits_down : (f : Flags) → flags_fit_of f ≡ Ok tt → Down f
unfolding flags_fit_of
fits_down (TwoByte a b) fits =
    let said = fits_fitting _ _ _ _ _ fits in
    let overlap = goes_read (b % 32) (eqb (b % 16) 12) said.class-fits said.goes in
    record {
      first = a;
      second = b;
      bytes = two_kept a b;
      shown = record {
        return-number = refl;
        number-of-returns = refl;
        direction = refl;
        edge = refl;
        class = refl;
        synthetic = refl;
        key_point = refl;
        withheld = refl;
        channel = refl;
        overlap = refl;
        overlap_standard = overlap.1;
      };
    }
fits_down (ThreeByte a b c) fits =
    let f = ThreeByte a b c in
    let said = fitting a b c fits in
    let overlap = goes_read c (overlap_of f) said.class-fits said.goes in
    let x = old-first (return_number_of f) (number_of_returns_of f) (direction_bit f) (edge_of f) said.return-number said.number-of-returns in
    let y = old_second_lem c (synthetic_of f) (key_point_of f) (withheld_of f) said.class-fits in
    record {
      first = old_first (return_number_of f) (number_of_returns_of f) (direction_bit f) (edge_of f);
      second = old_second c (synthetic_of f) (key_point_of f) (withheld_of f);
      bytes = bytes-of_fitting a b c fits;
      shown = record {
        return-number = x.return-number;
        number-of-returns = x.number-of-returns;
        direction = ap (λ (t : Bool). cond t LeftToRight RightToLeft) x.direction;
        edge = x.edge;
        class = y.class;
        synthetic = y.synthetic;
        key_point = y.key_point;
        withheld = y.withheld;
        channel = sym said.no-channel;
        overlap = ap (λ (m : ℕ). eqb m 12) y.low ∙ overlap.0;
        overlap_standard = ap (λ (m : ℕ). eqb m 12) y.class ∙ overlap.1;
      };
    }

-- and flags that any two bytes show whole fit
pub shown-fits : (f : Flags) (x y : ℕ) → Shown f (TwoByte x y) → flags_fit_of f ≡ Ok tt
unfolding flags_fit_of
shown-fits f x y s =
    let low : y % 32 % 16 ≡ y % 16 = omega arith in
    fitting_fits _ _ _ _ _ (record {
      return-number = rw (← s.return-number) (omega arith);
      number-of-returns = rw (← s.number-of-returns) (omega arith);
      class-fits = rw (← s.class) (omega arith);
      no-channel = sym s.channel;
      goes = rw (← s.class) (read_goes (y % 32) (overlap_of f) (ap (λ (m : ℕ). eqb m 12) low ∙ s.overlap) s.overlap_standard);
    })
