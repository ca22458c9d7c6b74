-- Bytes of flags that are made of what they are to say read so.
use Rattle.std.specs.Prelude.{ℕ, ◌/◌, ◌%◌, ◌<◌, ◌≤◌, ◌≡◌, Bool, true, false, eqb}
use Rattle.std.proofs.Common.{arith}
use Rattle.flags.specs.Readings.{bit}
use Rattle.flags.specs.Bytes.{flag, old_first, old_second}
use Rattle.strict.specs.Upgrade.{new_first, new_second}

flag-lt : (t : Bool) → flag t < 2
flag-lt true = omega arith
flag-lt false = omega arith

-- a bit with a flag's number in it reads as the flag
read : (t : Bool) (n : ℕ) → n ≡ flag t → eqb n 1 ≡ t
read true n e = rw e
read false n e = rw e

-- byte one of old flags
pub record OldFirst (x r n : ℕ) (d e : Bool) : Type 0 where
  pub return-number : x % 8 ≡ r
  pub number-of-returns : x / 8 % 8 ≡ n
  pub direction : bit 6 x ≡ d
  pub edge : bit 7 x ≡ e
  pub small : x < 256

pub old-first : (r n : ℕ) (d e : Bool) → r ≤ 7 → n ≤ 7 → OldFirst (old_first r n d e) r n d e
old-first r n d e h l =
    let x = old_first r n d e in
    record {
      return-number = omega arith;
      number-of-returns = omega arith;
      direction = read d (x / 64 % 2) (omega (arith, flag-lt d));
      edge = read e (x / 128 % 2) (omega (arith, flag-lt d, flag-lt e));
      small = omega (arith, flag-lt d, flag-lt e);
    }

-- byte two of old flags
pub record OldSecond (y k : ℕ) (s p w : Bool) : Type 0 where
  pub class : y % 32 ≡ k
  pub low : y % 16 ≡ k % 16
  pub synthetic : bit 5 y ≡ s
  pub key_point : bit 6 y ≡ p
  pub withheld : bit 7 y ≡ w
  pub small : y < 256

pub old_second_lem : (k : ℕ) (s p w : Bool) → k ≤ 31 → OldSecond (old_second k s p w) k s p w
old_second_lem k s p w h =
    let y = old_second k s p w in
    record {
      class = omega arith;
      low = omega arith;
      synthetic = read s (y / 32 % 2) (omega (arith, flag-lt s));
      key_point = read p (y / 64 % 2) (omega (arith, flag-lt s, flag-lt p));
      withheld = read w (y / 128 % 2) (omega (arith, flag-lt s, flag-lt p, flag-lt w));
      small = omega (arith, flag-lt s, flag-lt p, flag-lt w);
    }

-- byte one of extended flags
pub record NewFirst (x r n : ℕ) : Type 0 where
  pub return-number : x % 16 ≡ r
  pub number-of-returns : x / 16 % 16 ≡ n
  pub small : x < 256

pub new-first : (r n : ℕ) → r ≤ 15 → n ≤ 15 → NewFirst (new_first r n) r n
new-first r n h l = record { return-number = omega arith; number-of-returns = omega arith; small = omega arith }

-- byte two of extended flags, its channel 0
pub record NewSecond (y : ℕ) (s p w o d e : Bool) : Type 0 where
  pub synthetic : eqb (y % 2) 1 ≡ s
  pub key_point : bit 1 y ≡ p
  pub withheld : bit 2 y ≡ w
  pub overlap : bit 3 y ≡ o
  pub channel : y / 16 % 4 ≡ 0
  pub direction : bit 6 y ≡ d
  pub edge : bit 7 y ≡ e
  pub small : y < 256

pub new_second_lem : (s p w o d e : Bool) → NewSecond (new_second s p w o 0 d e) s p w o d e
new_second_lem s p w o d e =
    let y = new_second s p w o 0 d e in
    record {
      synthetic = read s (y % 2) (omega (arith, flag-lt s));
      key_point = read p (y / 2 % 2) (omega (arith, flag-lt s, flag-lt p));
      withheld = read w (y / 4 % 2) (omega (arith, flag-lt s, flag-lt p, flag-lt w));
      overlap = read o (y / 8 % 2) (omega (arith, flag-lt s, flag-lt p, flag-lt w, flag-lt o));
      channel = omega (arith, flag-lt s, flag-lt p, flag-lt w, flag-lt o);
      direction = read d (y / 64 % 2) (omega (arith, flag-lt s, flag-lt p, flag-lt w, flag-lt o, flag-lt d));
      edge = read e (y / 128 % 2) (omega (arith, flag-lt s, flag-lt p, flag-lt w, flag-lt o, flag-lt d, flag-lt e));
      small = omega (arith, flag-lt s, flag-lt p, flag-lt w, flag-lt o, flag-lt d, flag-lt e);
    }
