-- What the definitions of Readings and Bytes add up to.
use Rattle.std.specs.Prelude.{ℕ, ◌+◌, ◌*◌, ◌/◌, ◌%◌, ◌<◌, ◌≡◌, refl, Bool, true, false, cond, eqb}
use Rattle.std.proofs.Common.{ap, sym, ◌∙◌, arith, eqb-true, eq-eqb, ne_eqb}
use Rattle.std.proofs.lemmas.Bool.{eqb-false}
use Rattle.flags.specs.declared.Flags.{Flags}
use Rattle.flags.specs.declared.Flags.TheVariants.{TwoByte, ThreeByte}
use Rattle.flags.specs.Readings.{return_number_of, number_of_returns_of, direction_bit, edge_of, class_of, synthetic_of, key_point_of, withheld_of, overlap_of, standard_overlap_of, channel_of}
use Rattle.flags.specs.Bytes.{old_first, old_second, new_first, new_second, cleared_of}
use Rattle.flags.specs.Bits.{cut, above, low-three, high_five, flag-bit}

-- Each byte is made of what is read of it: no bit is left out, and none is read twice.
module _ (a b : ℕ) where
  abbrev old : Flags
  old = TwoByte a b

  -- "Old flags: byte one has return number (bits 0-2), number of returns (3-5), direction (6), edge (7)"
  pub old-first-whole : a < 256 → a ≡ old_first (return_number_of old) (number_of_returns_of old) (direction_bit old) (edge_of old)
  old-first-whole h = omega (arith, flag-bit (a / 64), flag-bit (a / 128))

  -- "byte two has class (0-4), synthetic (5), key point (6), withheld (7)"
  pub old_second_whole : b < 256 → b ≡ old_second (class_of old) (synthetic_of old) (key_point_of old) (withheld_of old)
  old_second_whole h = omega (arith, cut 32 2 b, cut 64 2 b, flag-bit (b / 32), flag-bit (b / 64), flag-bit (b / 128))

  -- "The Rust reads overlap from the low four bits being 12, thus also at class 28; the standard doesn't": they differ nowhere else.
  pub readings_agree : (class_of old ≡ 28 → ⊥) → overlap_of old ≡ standard_overlap_of old
  readings_agree h = go (eqb (b % 16) 12) refl
    where
      go : (t : Bool) → eqb (b % 16) 12 ≡ t → eqb (b % 16) 12 ≡ eqb (b % 32) 12
      go true e =
          let low : b % 16 ≡ 12 = eqb-true _ _ e in
          e ∙ sym (eq-eqb (b % 32) 12 (omega arith))
      go false e = e ∙ sym (ne_eqb (b % 32) 12 (λ q. eqb-false (b % 16) 12 e (omega arith)))

module _ (a b c : ℕ) where
  abbrev new : Flags
  new = ThreeByte a b c

  -- "Extended: byte one, return number (0-3), number of returns (4-7)"
  pub new-first-whole : a < 256 → a ≡ new_first (return_number_of new) (number_of_returns_of new)
  new-first-whole h = omega arith

  -- "byte two, synthetic, key point, withheld, overlap (0-3), channel (4-5), direction (6), edge (7)"
  pub new_second_whole : b < 256 → b ≡ new_second (synthetic_of new) (key_point_of new) (withheld_of new) (overlap_of new) (channel_of new) (direction_bit new) (edge_of new)
  new_second_whole h =
      omega (arith, high_five b h, low-three b, flag-bit b, flag-bit (b / 2), flag-bit (b / 4), flag-bit (b / 8), flag-bit (b / 64), flag-bit (b / 128))

  -- "byte three, class"
  pub new_third_whole : c ≡ class_of new
  new_third_whole = refl

-- what is read of f and of g alike, class and overlap aside
pub record Kept (f g : Flags) : Type 0 where
  pub return-number : return_number_of g ≡ return_number_of f
  pub number-of-returns : number_of_returns_of g ≡ number_of_returns_of f
  pub direction : direction_bit g ≡ direction_bit f
  pub edge : edge_of g ≡ edge_of f
  pub synthetic : synthetic_of g ≡ synthetic_of f
  pub key_point : key_point_of g ≡ key_point_of f
  pub withheld : withheld_of g ≡ withheld_of f
  pub channel : channel_of g ≡ channel_of f

kept : (f : Flags) → Kept f f
kept f =
    record { return-number = refl; number-of-returns = refl; direction = refl; edge = refl; synthetic = refl; key_point = refl; withheld = refl; channel = refl }

-- f cleared: g has class 1 for class 12, and with it this overlap, and else both as they were; all else is kept
pub record Cleared (f g : Flags) (overlap : Bool) : Type 0 where
  pub class : class_of g ≡ cond (eqb (class_of f) 12) 1 (class_of f)
  pub overlaps : overlap_of g ≡ cond (eqb (class_of f) 12) overlap (overlap_of f)
  pub rest : Kept f g

same : (n m : ℕ) → n ≡ m → eqb n 1 ≡ eqb m 1
same n m e = ap (λ (k : ℕ). eqb k 1) e

-- "`clear_overlap_class` turns class 12 into 1, in extended flags setting the overlap bit": every other reading is as it was. Of
-- two bytes, whose overlap is read from the class, class 1 says none.
pub two_cleared : (a b : ℕ) → Cleared (TwoByte a b) (cleared_of (TwoByte a b)) false
unfolding cleared_of
two_cleared a b = go (eqb (b % 32) 12) refl
  where
    go : (t : Bool) → eqb (b % 32) 12 ≡ t → Cleared (TwoByte a b) (cond t (TwoByte a (b / 32 * 32 + 1)) (TwoByte a b)) false
    go true e =
        let y = b / 32 * 32 + 1 in
        record {
          class = rw e (omega arith);
          overlaps = rw e (ne_eqb (y % 16) 12 (λ q. omega arith));
          rest = record {
            return-number = refl;
            number-of-returns = refl;
            direction = refl;
            edge = refl;
            synthetic = same (y / 32 % 2) (b / 32 % 2) (omega arith);
            key_point = same (y / 64 % 2) (b / 64 % 2) (omega arith);
            withheld = same (y / 128 % 2) (b / 128 % 2) (omega arith);
            channel = refl;
          };
        }
    go false e = record { class = rw e; overlaps = rw e; rest = kept (TwoByte a b) }

pub three_cleared : (a b c : ℕ) → Cleared (ThreeByte a b c) (cleared_of (ThreeByte a b c)) true
unfolding cleared_of
three_cleared a b c = go (eqb c 12) refl
  where
    go : (t : Bool) → eqb c 12 ≡ t → Cleared (ThreeByte a b c) (cond t (ThreeByte a (b / 16 * 16 + 8 + b % 8) 1) (ThreeByte a b c)) true
    go true e =
        let y = b / 16 * 16 + 8 + b % 8 in
        record {
          class = rw e;
          overlaps = rw e (eq-eqb (y / 8 % 2) 1 (omega arith));
          rest = record {
            return-number = refl;
            number-of-returns = refl;
            direction = ap (λ (n : ℕ). eqb (n % 2) 1) (above y b 16 4 (omega arith));
            edge = ap (λ (n : ℕ). eqb (n % 2) 1) (above y b 16 8 (omega arith));
            synthetic = same (y % 2) (b % 2) (omega arith);
            key_point = same (y / 2 % 2) (b / 2 % 2) (omega arith);
            withheld = same (y / 4 % 2) (b / 4 % 2) (omega arith);
            channel = omega arith;
          };
        }
    go false e = record { class = rw e; overlaps = rw e; rest = kept (ThreeByte a b c) }
