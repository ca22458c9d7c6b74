-- A part's three numbers stored, and what that leaves to store.
use Prim.Native.Nat.{ℕ, suc, ◌+◌, ◌*◌}
use mathlib.Core.Path.{◌≡◌, refl, ap, sym, ◌∙◌}
use mathlib.Core.List.{List, [], ◌∷◌}
use native.Mathlib.Omega.{arith}
use lib.ListN.{length, set}
use lib.Seq.{sets}
use Rattle.cursor.specs.declared.Part.{Part}
use Rattle.capi_cursor.specs.Numbers.{kind_number}
use Rattle.capi_file.specs.Parts.{numbers_of}

pub length-numbers : (ps : List Part) → length (numbers_of ps) ≡ 3 * length ps
unfolding numbers_of
length-numbers [] = refl
length-numbers (p ∷ ps) = omega (arith, length-numbers ps)

-- three stores one after the other
three : (t : List ℕ) (at a b c : ℕ) (rest : List ℕ) → sets (set (set (set t at a) (at + 1) b) (at + 2) c) (at + 3) rest ≡ sets t at (a ∷ b ∷ c ∷ rest)
three t at a b c rest =
    let one : at + 1 ≡ suc at = omega arith in
    let two : at + 2 ≡ suc (suc at) = omega arith in
    let all : at + 3 ≡ suc (suc (suc at)) = omega arith in
    rw (one, two, all)

-- a turn stores a part's numbers, and the others are left to store
pub turn : (t : List ℕ) (at k : ℕ) (p : Part) (left rest : List Part) → left ≡ p ∷ rest → k ≡ kind_number p.kind → sets (set (set (set t at k) (at + 1) p.start) (at + 2) p.length) (at + 3) (numbers_of rest) ≡ sets t at (numbers_of left)
unfolding numbers_of
turn t at k p left rest is kind = rw (is, kind) (three t at (kind_number p.kind) p.start p.length (numbers_of rest))
