-- Keys as numbers, both ways, and the rows of their calls.
use Rattle.std.specs.Prelude.{Option, Some, None, Result, Ok, Err}
use Rattle.refusal.specs.declared.Refused.{Refused}
use Rattle.keys.specs.declared.KeyValue.{KeyValue}
use Rattle.std.specs.Prelude.{ℕ, ◌%◌, Bool, true, false, List, [], ◌∷◌, get_or}
use Rattle.words.specs.Rows.{refused_row}
use Rattle.keys.specs.declared.Keys.{Keys}
use Rattle.keys.specs.declared.Value.{Value}
use Rattle.keys.specs.declared.Value.TheVariants.{Number, Doubles, Text}

-- where keys stand as five numbers, and where keys of five numbers stand
abbrev pub keys_numbers : Keys → List ℕ
keys_numbers ks = ks.count ∷ ks.start ∷ ks.length ∷ ks.doubles ∷ ks.text ∷ []

unfoldable pub keys_from : List ℕ → Keys
keys_from n =
    record { count = get_or n 0 0 % 65536; start = get_or n 1 0; length = get_or n 2 0; doubles = get_or n 3 0; text = get_or n 4 0 }

-- a key as five: the key, its location, its value, and the first byte and the bytes of its part
abbrev pub key_numbers : ℕ → Value → List ℕ
key_numbers key (Number v) = key ∷ 0 ∷ v ∷ 0 ∷ 0 ∷ []
key_numbers key (Doubles start n) = key ∷ 34736 ∷ 0 ∷ start ∷ n ∷ []
key_numbers key (Text start n) = key ∷ 34737 ∷ 0 ∷ start ∷ n ∷ []

-- the row of keys that were opened, and the numbers n, which a refusal leaves
abbrev pub opened_row : List ℕ → Result Keys Refused → List ℕ × List ℕ
opened_row n (Ok ks) = (0 ∷ ks.count ∷ 0 ∷ [], keys_numbers ks)
opened_row n (Err err) = (refused_row err.refusal err.«record», n)

-- whether there is a key, and then its numbers in place of n
abbrev pub key_row : List ℕ → Option KeyValue → Bool × List ℕ
key_row n (Some found) = (true, key_numbers found.key found.value)
key_row n None = (false, n)

-- the row of a key that was asked for, and its numbers
abbrev pub got_row : ℕ → List ℕ → Result Value Refused → List ℕ × List ℕ
got_row key n (Ok v) = (0 ∷ 0 ∷ 0 ∷ [], key_numbers key v)
got_row key n (Err err) = (refused_row err.refusal err.«record», n)
