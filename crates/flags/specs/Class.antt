-- Flags with another class: document 02, No. 13.
use Rattle.std.specs.Prelude.{ℕ, ◌+◌, ◌*◌, ◌/◌, ◌≤◌, Bool, true, false}
use Rattle.std.proofs.Math.Path.{◌≡◌, refl, ap}
use Rattle.std.proofs.Common.{arith}
use Rattle.flags.specs.declared.Flags.{Flags}
use Rattle.flags.specs.declared.Flags.TheVariants.{TwoByte, ThreeByte}
use Rattle.flags.specs.Readings.{return_number_of, number_of_returns_of, direction_bit, edge_of, class_of, synthetic_of, key_point_of, withheld_of, overlap_of, channel_of}
use Rattle.flags.specs.Bits.{above}

-- old: bits 0 to 4 of byte two, "this point's three flags in the old class byte" as they are; extended: byte three
unfoldable pub with_class : ℕ → Flags → Flags
with_class c (TwoByte a b) = TwoByte a (b / 32 * 32 + c)
with_class c (ThreeByte a b d) = ThreeByte a b c

-- whether flags have three bytes
abbrev pub has_three : Flags → Bool
has_three (TwoByte a b) = false
has_three (ThreeByte a b c) = true

-- g says what f says, but for the class; overlap is a flag of its own in three bytes alone
pub record SameButClass (f g : Flags) : Type 0 where
  pub return-number : return_number_of g ≡ return_number_of f
  pub number-of-returns : number_of_returns_of g ≡ number_of_returns_of f
  pub direction : direction_bit g ≡ direction_bit f
  pub edge : edge_of g ≡ edge_of f
  pub synthetic : synthetic_of g ≡ synthetic_of f
  pub key_point : key_point_of g ≡ key_point_of f
  pub withheld : withheld_of g ≡ withheld_of f
  pub channel : channel_of g ≡ channel_of f
  pub overlap : has_three f ≡ true → overlap_of g ≡ overlap_of f

module _ (c : ℕ) where
  -- a class that fits the flags: two bytes have room for 31
  abbrev pub Fits : Flags → Type 0
  Fits f = has_three f ≡ false → c ≤ 31

  -- they say it,
  pub class-set : (f : Flags) → Fits f → class_of (with_class c f) ≡ c
  unfolding with_class
  class-set (TwoByte a b) fits = omega (arith, fits refl)
  class-set (ThreeByte a b d) fits = refl

  -- and all else as before;
  pub class-only : (f : Flags) → Fits f → SameButClass f (with_class c f)
  unfolding with_class
  class-only (TwoByte a b) fits =
      let b' = b / 32 * 32 + c in
      let high : b' / 32 ≡ b / 32 = omega (arith, fits refl) in
      record {
        return-number = refl;
        number-of-returns = refl;
        direction = refl;
        edge = refl;
        synthetic = rw high;
        key_point = rw (above b' b 32 2 high);
        withheld = rw (above b' b 32 4 high);
        channel = refl;
        overlap = λ e. let z : ◌≡◌ {A = ℕ} 0 1 = cc in absurd (omega arith);
      }
  class-only (ThreeByte a b d) fits =
      record {
        return-number = refl;
        number-of-returns = refl;
        direction = refl;
        edge = refl;
        synthetic = refl;
        key_point = refl;
        withheld = refl;
        channel = refl;
        overlap = λ e. refl;
      }

  -- with the class that they had they are as they were
  pub class_back : (f : Flags) → Fits f → with_class (class_of f) (with_class c f) ≡ f
  unfolding with_class
  class_back (TwoByte a b) fits = ap (TwoByte a) (omega (arith, fits refl))
  class_back (ThreeByte a b d) fits = refl
