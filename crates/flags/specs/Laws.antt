-- Which two bytes flags have, and which three.
use Rattle.std.specs.Prelude.{Ok}
use Rattle.std.specs.Prelude.{ℕ, ◌≤◌, ◌≡◌, cond}
use Rattle.std.proofs.Math.Path.{refl}
use borrow.Author.Tests.{le-ltb}
use Rattle.flags.specs.declared.Flags.{Flags}
use Rattle.flags.specs.declared.Flags.TheVariants.{TwoByte, ThreeByte}
use Rattle.flags.specs.Readings.{return_number_of, number_of_returns_of, direction_bit, edge_of, class_of, synthetic_of, key_point_of, withheld_of, overlap_of, channel_of}
use Rattle.flags.specs.Bytes.{old_first, old_second, old_bytes_of, two_bytes_of, three_bytes_of}

-- flags that have as many bytes keep them
pub two_kept : (a b : ℕ) → two_bytes_of (TwoByte a b) ≡ Ok (a, b)
unfolding two_bytes_of
two_kept a b = refl

module _ (a b c : ℕ) where
  pub three_kept : three_bytes_of (ThreeByte a b c) ≡ record { a = a; b = b; c = c }
  unfolding three_bytes_of
  three_kept = refl

  abbrev f : Flags
  f = ThreeByte a b c

  -- three have two where each of the four fits, made of what they say
  pub two_fits : return_number_of f ≤ 7 → number_of_returns_of f ≤ 7 → class_of f ≤ 31 → channel_of f ≤ 0 → two_bytes_of f ≡ Ok ((old_first (return_number_of f) (number_of_returns_of f) (direction_bit f) (edge_of f)), (old_second (cond (overlap_of f) 12 (class_of f)) (synthetic_of f) (key_point_of f) (withheld_of f)))
  unfolding two_bytes_of old_bytes_of
  two_fits number returns class channel =
      rw (le-ltb 7 _ number, le-ltb 7 _ returns, le-ltb 31 _ class, le-ltb 0 (channel_of f) channel)
