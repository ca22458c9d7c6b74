-- Some bytes of a list, as many as are asked for.
use Rattle.std.specs.Prelude.{ℕ, ◌+◌, ◌≤◌, ◌≡◌, List, length, take, drop, replicate}
use Rattle.std.proofs.Common.{sym, ◌∙◌, append-nil, arith, length-drop, drop_of_length-le, length-take-le}
use Rattle.std.proofs.Math.Nat.{sub-zero}
use Rattle.std.proofs.lemmas.List.{length-replicate}
use Rattle.std.proofs.lemmas.List.Edits.{sets}
use Rattle.lent.specs.Laws.{whole}
use Rattle.store.specs.Laws.{sets_clip}

-- the n bytes of s from `at` on: zeros, and over them what s has
unfoldable pub window : ℕ → ℕ → List ℕ → List ℕ
window n at s = sets (replicate n 0) 0 (drop at s)

-- where s has them all they are that part of it
pub window_is : (n at : ℕ) (s : List ℕ) → at + n ≤ length s → window n at s ≡ take n (drop at s)
unfolding window
window_is n at s h =
    let d : List ℕ = replicate n 0 in
    let l : length d ≡ n = length-replicate n 0 in
    let k : length (take n (drop at s)) ≡ n = length-take-le n (drop at s) (simp length-drop (omega arith)) in
    let end : length d ≤ n = omega arith in
    sym (sets_clip (drop at s) d 0)
    ∙ rw (l, sub-zero) (whole d (take n (drop at s)) n k (omega arith) ∙ rw (drop_of_length-le d end) (append-nil (take n (drop at s))))
