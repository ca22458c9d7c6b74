-- The end of the points, by a product and a sum that are tested whether they fit.
use Rattle.std.specs.Prelude.{Result, Option, Some, None, Ok, Err}
use Rattle.std.specs.Option.{SomeIff, ok_or}
use Prim.Native.Nat.{ℕ, ◌+◌, ◌*◌, ◌^◌, ◌≤◌, ◌<◌}
use mathlib.Core.Path.{◌≡◌, sym, ◌∙◌}
use native.Mathlib.Omega.{arith}
use borrow.Author.Tests.{lt-ltb, le-ltb}
use Rattle.refusal.specs.declared.Refusal.{Refusal}
use Rattle.refusal.specs.declared.Refusal.TheVariants.{PointExtent}
use Rattle.refusal.specs.Refused.{ok_same, err_same}
use Rattle.header.specs.Header.{end_of}

module _ (offset points each : ℕ) where
  beyond : 2 ^ 64 ≤ offset + points * each → Err (PointExtent points) ≡ end_of offset points each
  unfolding end_of
  beyond h = rw (le-ltb (offset + points * each) (2 ^ 64) h)

  -- a product that does not fit is refused,
  pub refused : {e : Refusal} (o : Option ℕ) → SomeIff o (points * each < 2 ^ 64) (points * each) → ok_or o (PointExtent points) ≡ Err e → Err e ≡ end_of offset points each
  refused None h p = sym p ∙ beyond (omega arith)
  refused (Some x) h p = cc

  -- and one that fits is the bytes of the points,
  pub bytes : {n : ℕ} (o : Option ℕ) → SomeIff o (points * each < 2 ^ 64) (points * each) → ok_or o (PointExtent points) ≡ Ok n → n ≡ points * each
  bytes None h p = cc
  bytes (Some x) h p = sym (ok_same p) ∙ h.1

  -- whose end is answered where it fits too
  pub reached : (n : ℕ) (o : Option ℕ) → n ≡ points * each → SomeIff o (n + offset < 2 ^ 64) (n + offset) → ok_or o (PointExtent points) ≡ end_of offset points each
  unfolding end_of
  reached n None e h = rw (le-ltb (offset + points * each) (2 ^ 64) (omega arith))
  reached n (Some x) e h = let same : x ≡ offset + points * each = omega arith in rw (same, lt-ltb (offset + points * each) (2 ^ 64) (omega arith))
