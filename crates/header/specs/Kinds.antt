-- What a field of the header block can be, and how each kind is read and written.
use Rattle.std.specs.Prelude.{ℕ, zero, suc, ◌+◌, ◌*◌, ◌^◌, ◌<◌, ◌≡◌, List, [], ◌∷◌, length, get_or}
use Rattle.le.specs.Le.{num, bytes}
use Rattle.le.specs.Real.{f64_of, f64_bits_of}
use Rattle.le.specs.declared.float.F64.{F64}
use Rattle.fields.specs.Table.{part, joined}

-- a number of w bytes, the lowest first; w bytes as they stand; a float of eight bytes; n numbers of w bytes each
pub data Kind : Type 0 where
  Number Text : ℕ → Kind
  Real : Kind
  Numbers : ℕ → ℕ → Kind

abbrev pub width_of : Kind → ℕ
width_of (Number w) = w
width_of (Text w) = w
width_of Real = 8
width_of (Numbers n w) = n * w

-- what such a field holds
abbrev pub Value : Kind → Type 0
Value (Number w) = ℕ
Value (Text w) = List ℕ
Value Real = F64
Value (Numbers n w) = List ℕ

-- the n numbers of w bytes each that b has from `at` on
unfoldable pub nums : ℕ → ℕ → ℕ → List ℕ → List ℕ
nums w zero at b = []
nums w (suc n) at b = num w at b ∷ nums w n (at + w) b

-- the value that b has from `at` on; what lies past its end counts as 0
abbrev pub value_at : (k : Kind) → ℕ → List ℕ → Value k
value_at (Number w) at b = num w at b
value_at (Text w) at b = part w at b
value_at Real at b = f64_of (num 8 at b)
value_at (Numbers n w) at b = nums w n at b

-- the bytes of a value
abbrev pub bytes_of : (k : Kind) → Value k → List ℕ
bytes_of (Number w) n = bytes w n
bytes_of (Text w) bs = bs
bytes_of Real x = bytes 8 (f64_bits_of x)
bytes_of (Numbers n w) xs = joined (bytes w) xs

-- a value that so many bytes can hold: of a float, one that some pattern reads as
pub record Held (x : F64) : Type 0 where
  pub pattern : ℕ
  pub fits : pattern < 2 ^ 64
  pub reads : f64_of pattern ≡ x

abbrev pub Fits : (k : Kind) → Value k → Type 0
Fits (Number w) n = n < 256 ^ w
Fits (Text w) bs = length bs ≡ w
Fits Real x = Held x
Fits (Numbers n w) xs = (length xs ≡ n) × ((j : ℕ) → get_or xs j 0 < 256 ^ w)
