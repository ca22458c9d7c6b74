-- When there is a header: rule 1 of document 01, "When a file is accepted"; what the reader answers.
use Rattle.std.specs.Prelude.{Result, Ok, Err}
use Rattle.header.specs.Whole.{whole_of}
use Rattle.header.specs.declared.Whole.{Whole}
use Rattle.refusal.specs.declared.Refusal.{Refusal}
use Rattle.std.specs.Prelude.{ℕ, ◌+◌, ◌*◌, ◌-◌, Bool, true, false, cond, ◌&&◌, List, [], ◌∷◌, eqb, ltb, length, take, drop}
use Rattle.refusal.specs.declared.Refusal.TheVariants.{Short, Signature, Version as VersionRefusal}
use Rattle.header.specs.declared.Version.{Version}
use Rattle.header.specs.declared.Header.{Header}
use Rattle.header.specs.Layout.{FileSignature, VersionMajor, VersionMinor, HeaderSize, fields_of, size}
use Rattle.header.specs.Header.{part, number, header_of, lasf, default_header}

-- whether two lists are the same
unfoldable pub eq_list : List ℕ → List ℕ → Bool
eq_list [] [] = true
eq_list [] (y ∷ ys) = false
eq_list (x ∷ xs) [] = false
eq_list (x ∷ xs) (y ∷ ys) = eqb x y && eq_list xs ys

-- the size of the version's block, or "Version not 1.0 to 1.4: 3"
unfoldable pub standard_of : Version → Result ℕ Refusal
standard_of v =
    cond (eqb v.major 1 && ltb v.minor 5) (Ok (size (fields_of v.minor)))
    (Err (VersionRefusal (v.major * 256 + v.minor)))

unfoldable pub version_of : List ℕ → Version
version_of s = record { major = number VersionMajor s; minor = number VersionMinor s }

-- where the padding ends: at the header-size field, if that is above the standard size
unfoldable pub padded_to : ℕ → ℕ → ℕ
padded_to n field = cond (ltb n field) field n

-- "Fewer than the standard size, then than the header-size field: 1"
unfoldable pub sized : Result ℕ Refusal → List ℕ → Result Whole Refusal
sized (Err r) s = Err r
sized (Ok n) s =
    cond (ltb (length s) n) (Err (Short n))
    (cond (ltb (length s) (number HeaderSize s)) (Err (Short (number HeaderSize s)))
    (Ok (whole_of n (padded_to n (number HeaderSize s)))))

-- "Fewer than 26: 1. Version not 1.0 to 1.4: 3."
unfoldable pub versioned : List ℕ → Result Whole Refusal
versioned s = cond (ltb (length s) 26) (Err (Short 26)) (sized (standard_of (version_of s)) s)

-- "Fewer than 4 bytes: 1. Wrong signature: 2."
unfoldable pub judged : List ℕ → Result Whole Refusal
judged s =
    cond (ltb (length s) 4) (Err (Short 4))
    (cond (eq_list (part FileSignature s) lasf) (versioned s) (Err (Signature (number FileSignature s))))

-- the header of the block
unfoldable pub read_by : Result Whole Refusal → List ℕ → Result Header Refusal
read_by (Ok whole) s = Ok (header_of (take whole.block s))
read_by (Err r) s = Err r

unfoldable pub read_of : List ℕ → Result Header Refusal
read_of s = read_by (judged s) s

-- the header that was read, or, refused, the default one
abbrev pub header_or : Result Header Refusal → Header
header_or (Ok h) = h
header_or (Err r) = default_header

abbrev pub header_in : List ℕ → Header
header_in s = header_or (read_of s)

-- "the bytes between are padding", and none on refusal
unfoldable pub padding_by : Result Whole Refusal → List ℕ → List ℕ
padding_by (Ok whole) s = take (whole.end - whole.block) (drop whole.block s)
padding_by (Err r) s = []

unfoldable pub padding_of : List ℕ → List ℕ
padding_of s = padding_by (judged s) s
