-- Laws of the formats that the rules speak of.
use Rattle.std.specs.Prelude.{Ok}
use Rattle.std.specs.Prelude.{ℕ, ◌-◌, ◌≤◌, ◌≡◌, refl, true, false, ltb}
use Rattle.std.proofs.Common.{arith, lt-ltb}
use Rattle.format.specs.Codes.{coded}
use Rattle.format.specs.Format.{with_extra}
use Rattle.format.specs.Fields.{record_bytes, len_of}
use Rattle.format.specs.Attributes.{coded-bytes, coded-len, coded-filled}
use Rattle.rules.specs.Rules.{highest_format, format_bytes}

-- the bytes of a code's record
pub format_bytes_lem : (f : ℕ) → (20 ≤ format_bytes f) × (format_bytes f ≤ 67)
unfolding format_bytes
format_bytes_lem f = coded-bytes f false

pub has-length : (f : ℕ) → len_of (coded f false) ≡ Ok (format_bytes f)
unfolding format_bytes
has-length f = coded-len f false

-- with the rest of a longer record as extra bytes
pub filled-bytes : (f m : ℕ) → format_bytes f ≤ m → record_bytes (with_extra (m - format_bytes f) (coded f false)) ≡ m
unfolding format_bytes
filled-bytes f m h = coded-filled f false m h

-- a format that is known is not compressed
pub uncompressed : (f : ℕ) → f ≤ 10 → ltb f 128 ≡ true
uncompressed f h = lt-ltb f 128 (omega arith)

-- the highest formats of versions 1.2 and 1.4
pub highest_formats : (highest_format 2 ≡ 3) × (highest_format 4 ≡ 10)
unfolding highest_format
highest_formats = (refl, refl)
