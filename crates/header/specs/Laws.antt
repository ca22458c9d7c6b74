-- Laws of rule 1: what the answer says of the bytes, and what gives that answer.
use Rattle.std.specs.Prelude.{Result, Ok, Err}
use Rattle.header.specs.Whole.{whole_of, whole_same}
use Rattle.header.specs.declared.Whole.{Whole}
use Rattle.std.specs.Prelude.{ℕ, ◌+◌, ◌*◌, ◌≤◌, ◌<◌, ◌≡◌, Bool, true, false, cond, ◌&&◌, List, [], ◌∷◌, T, eqb, ltb, length, take, drop}
use Rattle.std.proofs.Math.Path.{refl, sym, ap}
use Rattle.std.proofs.Common.{subst, ◌∙◌, arith, le-ltb, lt-ltb, eq-eqb, eqb-true, ltb-true, ltb-false, length-take, length-take-le}
use Rattle.std.proofs.Math.Bool.{and-eq-true_iff}
use Rattle.std.proofs.Math.Dec.{eqb_refl}
use Rattle.std.specs.Float.Ieee.Bits.{is_true}
use Rattle.le.specs.Le.{num}
use Rattle.le.specs.Laws.{num-take}
use Rattle.le.specs.Part.{num-first}
use Rattle.refusal.specs.declared.Refusal.{Refusal}
use Rattle.refusal.specs.declared.Refusal.TheVariants.{Short, Signature, Version as VersionRefusal}
use Rattle.header.specs.declared.Version.{Version}
use Rattle.header.specs.Layout.{Field, FileSignature, VersionMajor, VersionMinor, HeaderSize, place, width, fields12, fields13, fields14, fields_of, size}
use Rattle.header.specs.Header.{part, number, lasf}
use Rattle.header.specs.Window.{part-take}
use Rattle.header.specs.Judged.{eq_list, standard_of, version_of, padded_to, sized, versioned, judged}

-- `eq_list` tells whether two lists are the same
pub eq_list-refl : (l : List ℕ) → eq_list l l ≡ true
unfolding eq_list
eq_list-refl [] = refl
eq_list-refl (x ∷ xs) = rw (is_true (eqb x x) (eqb_refl x)) (eq_list-refl xs)

pub eq_list-true : (l m : List ℕ) → eq_list l m ≡ true → l ≡ m
unfolding eq_list
eq_list-true [] [] e = refl
eq_list-true [] (y ∷ ys) e = absurd (subst T (sym e) tt)
eq_list-true (x ∷ xs) [] e = absurd (subst T (sym e) tt)
eq_list-true (x ∷ xs) (y ∷ ys) e =
    let p = (and-eq-true_iff _ _).0 e in
    λ i. eqb-true x y p.0 i ∷ eq_list-true xs ys p.1 i

-- rule 1 for bytes whose block ends at n and whose padding ends at e
pub record Accepted (s : List ℕ) (n e : ℕ) : Type 0 where
  pub signature : part FileSignature s ≡ lasf
  pub major : number VersionMajor s ≡ 1
  pub minor : number VersionMinor s < 5
  pub block : n ≡ size (fields_of (number VersionMinor s))
  pub holds-block : n ≤ length s
  pub holds-field : number HeaderSize s ≤ length s
  pub end : e ≡ padded_to n (number HeaderSize s)

-- what holds of the fields of each version holds of those of this one
pub by_version : (P : List Field → Type 0) (m : ℕ) → (m < 3 → P fields12) → (m ≡ 3 → P fields13) → (4 ≤ m → P fields14) → P (fields_of m)
by_version P m p q r = go (ltb m 3) (ltb m 4) refl refl
  where
    go : (x y : Bool) → ltb m 3 ≡ x → ltb m 4 ≡ y → P (cond x fields12 (cond y fields13 fields14))
    go true y e f = p (ltb-true m 3 e)
    go false true e f = q (omega (arith, ltb-false m 3 e, ltb-true m 4 f))
    go false false e f = r (ltb-false m 4 f)

-- a block has at least the bytes of version 1.0, and its header-size field is within them
pub size-least : (m : ℕ) → 227 ≤ size (fields_of m)
size-least m = by_version (λ fs. 227 ≤ size fs) m (λ h. omega arith) (λ h. omega arith) (λ h. omega arith)

-- the block of an older version ends before what it lacks
pub short_12 : (m : ℕ) → m < 3 → size (fields_of m) ≤ 227
short_12 m h = by_version (λ fs. size fs ≤ 227) m (λ l. omega arith) (λ e. absurd (omega arith)) (λ l. absurd (omega arith))

pub short_13 : (m : ℕ) → m < 4 → size (fields_of m) ≤ 235
short_13 m h = by_version (λ fs. size fs ≤ 235) m (λ l. omega arith) (λ e. omega arith) (λ l. absurd (omega arith))

-- where a chain of tests answers whole, a test that would refuse has failed
module _ (n e : ℕ) (b : Bool) (r : Refusal) (a : Result Whole Refusal) where
  past : cond b (Err r) a ≡ Ok (whole_of n e) → (b ≡ false) × (a ≡ Ok (whole_of n e))
  past p = go b refl p
    where
      go : (t : Bool) → b ≡ t → cond t (Err r) a ≡ Ok (whole_of n e) → (b ≡ false) × (a ≡ Ok (whole_of n e))
      go true q h = let z : ◌≡◌ {A = ℕ} 0 1 = cc in absurd (omega arith)
      go false q h = (q, h)

  held : cond b a (Err r) ≡ Ok (whole_of n e) → (b ≡ true) × (a ≡ Ok (whole_of n e))
  held p = go b refl p
    where
      go : (t : Bool) → b ≡ t → cond t a (Err r) ≡ Ok (whole_of n e) → (b ≡ true) × (a ≡ Ok (whole_of n e))
      go true q h = (q, h)
      go false q h = let z : ◌≡◌ {A = ℕ} 0 1 = cc in absurd (omega arith)

-- of a version that has a size, the version and the size
pub known : (v : Version) (n : ℕ) → standard_of v ≡ Ok n → (v.major ≡ 1) × (v.minor < 5) × (n ≡ size (fields_of v.minor))
unfolding standard_of
known v n p = go (eqb v.major 1) (ltb v.minor 5) refl refl p
  where
    go : (a b : Bool) → eqb v.major 1 ≡ a → ltb v.minor 5 ≡ b → cond (a && b) (Ok (size (fields_of v.minor))) (Err (VersionRefusal (v.major * 256 + v.minor))) ≡ Ok n → (v.major ≡ 1) × (v.minor < 5) × (n ≡ size (fields_of v.minor))
    go true true q h e = (eqb-true _ _ q, ltb-true _ _ h, (cc))
    go true false q h e = let z : ◌≡◌ {A = ℕ} 0 1 = cc in absurd (omega arith)
    go false b q h e = let z : ◌≡◌ {A = ℕ} 0 1 = cc in absurd (omega arith)

-- "Fewer than the standard size, then than the header-size field" did not hold
in_size : (s : List ℕ) (x : Result ℕ Refusal) (n e : ℕ) → sized x s ≡ Ok (whole_of n e) → (x ≡ Ok n) × (n ≤ length s) × (number HeaderSize s ≤ length s) × (e ≡ padded_to n (number HeaderSize s))
unfolding sized
in_size s (Err r) n e p = let z : ◌≡◌ {A = ℕ} 0 1 = cc in absurd (omega arith)
in_size s (Ok m) n e p =
    let block = past n e (ltb (length s) m) (Short m) _ p in
    let field = past n e (ltb (length s) (number HeaderSize s)) (Short (number HeaderSize s)) _ block.1 in
    let told = whole_same field.1 in
    let same : m ≡ n = told.0 in
    (ap Ok same, rw same at (ltb-false (length s) m block.0), ltb-false (length s) (number HeaderSize s) field.0, sym told.1 ∙ ap (λ (k : ℕ). padded_to k (number HeaderSize s)) same)

-- Rule 1 holds exactly where the answer is whole.
pub accepted : (s : List ℕ) {n e : ℕ} → judged s ≡ Ok (whole_of n e) → Accepted s n e
unfolding judged versioned version_of
accepted s {n} {e} p =
    let four = past n e (ltb (length s) 4) (Short 4) _ p in
    let lasf-there = held n e (eq_list (part FileSignature s) lasf) (Signature (number FileSignature s)) _ four.1 in
    let version = past n e (ltb (length s) 26) (Short 26) _ lasf-there.1 in
    let size_fits = in_size s (standard_of (version_of s)) n e version.1 in
    let v = known (version_of s) n size_fits.0 in
    record {
      signature = eq_list-true _ _ lasf-there.0;
      major = v.0;
      minor = v.1;
      block = v.2;
      holds-block = size_fits.1;
      holds-field = size_fits.2;
      end = size_fits.3;
    }

-- and its version has the block's size
pub standard-of : (s : List ℕ) {n e : ℕ} → judged s ≡ Ok (whole_of n e) → standard_of (version_of s) ≡ Ok n
unfolding standard_of version_of
standard-of s p = let a = accepted s p in rw (eq-eqb _ _ a.major, lt-ltb _ _ a.minor, ← a.block)

pub whole : (s : List ℕ) {n e : ℕ} → Accepted s n e → judged s ≡ Ok (whole_of n e)
unfolding judged versioned standard_of version_of sized
whole s {n} {e} a =
    let least : 227 ≤ n = rw (← a.block) at (size-least (number VersionMinor s)) in
    rw (le-ltb (length s) 4 (omega (arith, a.holds-block)), a.signature, eq_list-refl, le-ltb (length s) 26 (omega (arith, a.holds-block)), eq-eqb _ _ a.major, lt-ltb _ _ a.minor, ← a.block, le-ltb _ _ a.holds-block, le-ltb _ _ a.holds-field, ← a.end)

-- The block is no shorter than version 1.0's, and lies with its padding in the bytes; the header-size field does not pass
-- the padding's end.
pub within : (s : List ℕ) {n e : ℕ} → judged s ≡ Ok (whole_of n e) → (227 ≤ n) × (n ≤ e) × (e ≤ length s) × (number HeaderSize s ≤ e)
unfolding padded_to
within s {n} {e} p = go (ltb n (number HeaderSize s)) refl
  where
    a : Accepted s n e
    a = accepted s p

    least : 227 ≤ n
    least = rw (← a.block) at (size-least (number VersionMinor s))

    go : (t : Bool) → ltb n (number HeaderSize s) ≡ t → (227 ≤ n) × (n ≤ e) × (e ≤ length s) × (number HeaderSize s ≤ e)
    go true q =
        let same : e ≡ number HeaderSize s = a.end ∙ rw q in
        (least, omega (arith, ltb-true n (number HeaderSize s) q), omega (arith, a.holds-field), omega arith)
    go false q =
        let same : e ≡ n = a.end ∙ rw q in
        (least, omega arith, omega (arith, a.holds-block), omega (arith, ltb-false n (number HeaderSize s) q))

-- Bytes that agree as far as the padding have the same answer.
pub agreed : (s t : List ℕ) {n e : ℕ} → judged s ≡ Ok (whole_of n e) → take e s ≡ take e t → judged t ≡ Ok (whole_of n e)
agreed s t {n} {e} p same =
    let a = accepted s p in
    let w = within s p in
    let long : e ≤ length t = omega (arith, length-take e t, ap length same, length-take-le e s w.2) in
    let number_same : (f : Field) → place f + width f ≤ 227 → number f t ≡ number f s =
    λ f h. sym (num-take (width f) (place f) t e (omega (arith, w.0, w.1))) ∙ ap (num (width f) (place f)) (sym same) ∙ num-take (width f) (place f) s e (omega (arith, w.0, w.1)) in
    let minors = number_same VersionMinor (omega arith) in
    let fields = number_same HeaderSize (omega arith) in
    whole t
    (record {
      signature = sym (part-take e t 4 0 (omega (arith, w.0, w.1))) ∙ ap (λ (l : List ℕ). take 4 (drop 0 l)) (sym same) ∙ part-take e s 4 0 (omega (arith, w.0, w.1)) ∙ a.signature;
      major = number_same VersionMajor (omega arith) ∙ a.major;
      minor = rw minors a.minor;
      block = a.block ∙ ap (λ (m : ℕ). size (fields_of m)) (sym minors);
      holds-block = omega (arith, w.1, long);
      holds-field = rw fields (omega (arith, w.3, long));
      end = a.end ∙ ap (padded_to n) (sym fields);
    })

-- As many bytes with the same signature, version and header-size field have the same answer.
module _ (s t : List ℕ) (long : length t ≡ length s) (signature : part FileSignature t ≡ part FileSignature s) (major : number VersionMajor t ≡ number VersionMajor s) (minor : number VersionMinor t ≡ number VersionMinor s) (field : number HeaderSize t ≡ number HeaderSize s) where
  same_size : (x : Result ℕ Refusal) → sized x t ≡ sized x s
  unfolding sized
  same_size (Err r) = refl
  same_size (Ok n) = rw (long, field)

  pub same_answer : judged t ≡ judged s
  unfolding judged versioned version_of
  same_answer =
      let signed : number FileSignature t ≡ number FileSignature s = sym (num-first 4 4 0 t (omega arith)) ∙ ap (num 4 0) signature ∙ num-first 4 4 0 s (omega arith) in
      let versions : version_of t ≡ version_of s = λ i. record { major = major i; minor = minor i } in
      let sizes : sized (standard_of (version_of t)) t ≡ sized (standard_of (version_of s)) s = same_size (standard_of (version_of t)) ∙ ap (λ (v : Version). sized (standard_of v) s) versions in
      rw (long, signature, signed, sizes)
