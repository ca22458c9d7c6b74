-- Little-endian numbers: the number in a list of bytes, and the bytes of a number.
use Rattle.std.specs.Prelude.{ℕ, zero, suc, ◌+◌, ◌*◌, ◌/◌, ◌%◌, ◌^◌, ◌<◌, List, [], ◌∷◌, get_or, drop}

-- the number that the first w bytes of s are, the lowest byte first; a byte past the end counts as 0
unfoldable pub le : ℕ → List ℕ → ℕ
le zero s = 0
le (suc w) s = get_or s 0 0 + 256 * le w (drop 1 s)

-- the number in the w bytes of s from `at` on
unfoldable pub num : ℕ → ℕ → List ℕ → ℕ
num w at s = le w (drop at s)

-- w bytes of x, from its byte k on: byte k is x / 256 ^ k % 256
abbrev pub bytes_from : ℕ → ℕ → ℕ → List ℕ
bytes_from k zero x = []
bytes_from k (suc w) x = x / 256 ^ k % 256 ∷ bytes_from (suc k) w x

-- the w bytes of x, the lowest first
abbrev pub bytes : ℕ → ℕ → List ℕ
bytes zero x = []
bytes (suc w) x = x % 256 ∷ bytes_from 1 w x

-- a list of bytes
abbrev pub Bytes : List ℕ → Type 0
Bytes s = (k : ℕ) → get_or s k 0 < 256
