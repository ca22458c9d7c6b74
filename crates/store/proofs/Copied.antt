-- One law over the count: zeros, once what a slice has from a place on is stored over them, are the window there.
use Prim.Native.Nat.{ℕ, ◌-◌, ◌≤◌}
use mathlib.Core.Path.{◌≡◌, ◌∙◌}
use mathlib.Core.List.{List}
use native.Mathlib.Omega.{arith}
use lib.ListN.{length, take, drop, replicate, length-drop, drop_of_length-le}
use lib.Seq.{sets, take_all}
use Rattle.store.specs.Window.{window}

module _ (n at : ℕ) (s : List ℕ) where
  pub copied : {x : List ℕ} → x ≡ sets (replicate n 0) 0 (take (length s - at) (drop at s)) → x ≡ window n at s
  unfolding window
  copied e =
      let all : length (drop at s) ≤ length s - at = simp length-drop (omega arith) in
      e ∙ rw (take_all (length s - at) (drop at s) all)

  -- past the end there is nothing to store
  pub none : length s ≤ at → replicate n 0 ≡ window n at s
  unfolding window
  none h = rw (drop_of_length-le s h)
