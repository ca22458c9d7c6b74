-- Records of m bytes, one after the other, of which `left` are left from a place on.
use Rattle.std.specs.Prelude.{◌≡◌, List, ℕ, ◌+◌, ◌-◌, ◌*◌, ◌≤◌, ◌<◌, length, take, drop}
use Rattle.std.proofs.Common.{arith, length-drop, length-take-le}
use Rattle.lent.specs.Laws.{less_one}

-- the one at the place has m bytes
pub record_length_lem : (m : ℕ) (s : List ℕ) (at left : ℕ) → 0 < left → at + left * m ≤ length s → length (take (at + m - at) (drop at s)) ≡ m
record_length_lem m s at left more ends =
    let cut : at + m - at ≡ m = omega arith in
    rw cut (length-take-le m (drop at s) (simp length-drop (omega (arith, less_one left m more))))
