-- The bytes of a value: document 02, No. 8, and LAS 1.4 R15's table of the types of extra bytes.
use Rattle.std.specs.Prelude.{ℕ, zero, suc, ◌-◌, ◌<◌, ◌≡◌, refl, List, [], ◌∷◌, get_or}
use Rattle.std.proofs.Common.{arith}
use Rattle.std.proofs.Math.ListN.{get_or-eq_default}

-- "Types 1 to 10 are u8, i8, u16, i16, u32, i32, u64, i64, f32, f64": the bytes of each
abbrev pub sizes : List ℕ
sizes = 1 ∷ 1 ∷ 2 ∷ 2 ∷ 4 ∷ 4 ∷ 8 ∷ 8 ∷ 4 ∷ 8 ∷ []

-- "type 0 takes its byte count from options"; a type above 10 has no bytes
unfoldable pub size_of : ℕ → ℕ → ℕ
size_of zero options = options
size_of (suc k) options = get_or sizes k 0

pub type_zero : (type options : ℕ) → type ≡ 0 → size_of type options ≡ options
unfolding size_of
type_zero zero options h = refl
type_zero (suc k) options h = absurd (omega arith)

pub type_other : (type options : ℕ) → 0 < type → size_of type options ≡ get_or sizes (type - 1) 0
unfolding size_of
type_other zero options h = absurd (omega arith)
type_other (suc k) options h = let before : suc k - 1 ≡ k = omega arith in rw before

pub above_ten : (type options : ℕ) → 10 < type → size_of type options ≡ 0
unfolding size_of
above_ten zero options h = absurd (omega arith)
above_ten (suc k) options h = get_or-eq_default sizes 0 {n = k} (omega arith)
