-- Flags carried between two bytes and three, as the Rust does it (document 01, "Old flags" and refusals 15 to 18).
use Rattle.std.specs.Prelude.{Result, Ok, Err}
use Rattle.refusal.specs.declared.Refusal.{Refusal}
use Rattle.std.specs.Prelude.{ℕ, ◌+◌, ◌*◌, ◌/◌, ◌%◌, Bool, true, false, cond, ◌&&◌, eqb, ltb}
use Rattle.refusal.specs.declared.Refusal.TheVariants.{ReturnNumber, NumberOfReturns, Class, Channel}
use Rattle.flags.specs.declared.Flags.{Flags}
use Rattle.flags.specs.declared.Flags.TheVariants.{TwoByte, ThreeByte}
use Rattle.flags.specs.declared.ThreeBytes.{ThreeBytes}
use Rattle.flags.specs.Readings.{return_number_of, number_of_returns_of, direction_bit, edge_of, class_of, synthetic_of, key_point_of, withheld_of, overlap_of, channel_of}

-- a flag as the number of its bit
abbrev pub flag : Bool → ℕ
flag true = 1
flag false = 0

-- byte one of old flags, from what it says
abbrev pub old_first : ℕ → ℕ → Bool → Bool → ℕ
old_first return_number returns direction edge = return_number + 8 * returns + 64 * flag direction + 128 * flag edge

-- byte two of old flags, from what it says
abbrev pub old_second : ℕ → Bool → Bool → Bool → ℕ
old_second class synthetic key withheld = class + 32 * flag synthetic + 64 * flag key + 128 * flag withheld

-- byte one of extended flags, from what it says
abbrev pub new_first : ℕ → ℕ → ℕ
new_first return_number returns = return_number + 16 * returns

-- byte two of extended flags, from what it says
abbrev pub new_second : Bool → Bool → Bool → Bool → ℕ → Bool → Bool → ℕ
new_second synthetic key withheld overlap channel direction edge =
    flag synthetic + 2 * flag key + 4 * flag withheld + 8 * flag overlap + 16 * channel + 64 * flag direction + 128 * flag edge

-- the old bytes that say what f says, a set overlap flag taking the place of the class as class 12
unfoldable pub old_bytes_of : Flags → Result (ℕ × ℕ) Refusal
old_bytes_of f =
    Ok (
      old_first (return_number_of f) (number_of_returns_of f) (direction_bit f) (edge_of f),
      old_second (cond (overlap_of f) 12 (class_of f)) (synthetic_of f) (key_point_of f) (withheld_of f),
    )

-- old flags as they are; of extended ones the first of the four that does not fit, else the old bytes
unfoldable pub two_bytes_of : Flags → Result (ℕ × ℕ) Refusal
two_bytes_of (TwoByte a b) = Ok (a, b)
two_bytes_of (ThreeByte a b c) =
    let f = ThreeByte a b c in
    cond (ltb 7 (return_number_of f)) (Err (ReturnNumber (return_number_of f)))
    (cond (ltb 7 (number_of_returns_of f)) (Err (NumberOfReturns (number_of_returns_of f)))
    (cond (ltb 31 (class_of f)) (Err (Class (class_of f)))
    (cond (ltb 0 (channel_of f)) (Err (Channel (channel_of f))) (old_bytes_of f))))

-- extended flags as they are; old ones lose direction and edge, and their byte two becomes the class whole
unfoldable pub three_bytes_of : Flags → ThreeBytes
three_bytes_of (TwoByte a b) = record { a = number_of_returns_of (TwoByte a b) * 16 + return_number_of (TwoByte a b); b = 0; c = b }
three_bytes_of (ThreeByte a b c) = record { a = a; b = b; c = c }

-- class 12 becomes 1, and in extended flags bit 3 of byte two is set
unfoldable pub cleared_of : Flags → Flags
cleared_of (TwoByte a b) = cond (eqb (class_of (TwoByte a b)) 12) (TwoByte a (b / 32 * 32 + 1)) (TwoByte a b)
cleared_of (ThreeByte a b c) = cond (eqb c 12) (ThreeByte a (b / 16 * 16 + 8 + b % 8) 1) (ThreeByte a b c)

-- flags are the same where their three bytes are
unfoldable pub same_of : Flags → Flags → Bool
same_of f g =
    let x = three_bytes_of f in
    let y = three_bytes_of g in
    eqb x.a y.a && (eqb x.b y.b && eqb x.c y.c)
