-- The coordinate keys of a file: document 02, No. 14, "user id LASF_Projection, first VLRs 34735 (u16 directory), 34736 (doubles) and 34737
-- (text)".
use Rattle.std.specs.Prelude.{Option, Some, None, Result, Ok, Err}
use Rattle.keys.specs.KeyValue.{key_value}
use Rattle.refusal.specs.Refused.{at_record}
use Rattle.first_vlr.specs.Span.{span}
use Rattle.refusal.specs.declared.Refusal.{Refusal}
use Rattle.first_vlr.specs.declared.Span.{Span}
use Rattle.refusal.specs.declared.Refused.{Refused}
use Rattle.keys.specs.declared.Value.{Value}
use Rattle.keys.specs.declared.KeyValue.{KeyValue}
use Rattle.std.specs.Prelude.{ℕ, ◌+◌, cond, List, [], ◌∷◌, eqb, leb, length, take, drop}
use Rattle.refusal.specs.declared.Refusal.TheVariants.{NoDirectory, KeyNotFound}
use Rattle.outline.specs.declared.Outline.{Outline}
use Rattle.first_vlr.specs.First as first-vlr
use Rattle.directory.specs.declared.Entry.{Entry}
use Rattle.directory.specs.Directory.{key_of, entry_of, bytes_of, judged_of, place_of}
use Rattle.keys.specs.declared.Keys.{Keys}
use Rattle.keys.specs.declared.Value.TheVariants.{Number, Doubles, Text}

-- "LASF_Projection"
abbrev pub projection : List ℕ
projection = 76 ∷ 65 ∷ 83 ∷ 70 ∷ 95 ∷ 80 ∷ 114 ∷ 111 ∷ 106 ∷ 101 ∷ 99 ∷ 116 ∷ 105 ∷ 111 ∷ 110 ∷ []

unfoldable pub projection_of : Outline → ℕ → List ℕ → Option Span
projection_of o id s = first-vlr.first_of o projection id s

-- the bytes that a record holds, and where they start
abbrev pub target_of : Option Span → Option ℕ
target_of (Some at) = Some at.length
target_of None = None

abbrev pub start_of : Option Span → ℕ
start_of (Some at) = at.start
start_of None = 0

-- "no directory", and then what its judgement says
abbrev pub opened_by : ℕ → ℕ → Option Span → Option Span → Result ℕ Refusal → Result Keys Refused
opened_by start n doubles text (Ok count) =
    Ok (record { count = count; start = start; length = n; doubles = start_of doubles; text = start_of text })
opened_by start n doubles text (Err r) = Err (at_record r 0)

unfoldable pub opened_in : Option Span → Option Span → Option Span → List ℕ → Result Keys Refused
opened_in (Some at) doubles text s =
    opened_by at.start at.length doubles text (judged_of (take at.length (drop at.start s)) (target_of doubles) (target_of text))
opened_in None doubles text s = Err (at_record NoDirectory 0)

-- "file check; no directory; ..": of an accepted file, the three VLRs
abbrev pub opened_file : Result Outline Refused → List ℕ → Result Keys Refused
opened_file (Ok o) s = opened_in (projection_of o 34735 s) (projection_of o 34736 s) (projection_of o 34737 s) s
opened_file (Err err) s = Err err

unfoldable pub opened_of : ℕ → List ℕ → Result Keys Refused
opened_of allowance s = opened_file (first-vlr.opened_of allowance s) s

-- the directory of some keys
abbrev pub directory_in : Keys → List ℕ → List ℕ
directory_in ks s = take ks.length (drop ks.start s)

-- "Location 0 holds the value itself; the others point into the two other records, by index and count": the part of a file of `len` bytes
-- that an entry points to, in a record whose data starts at `base`; nothing where it ends beyond the file
unfoldable pub base_of : Keys → ℕ → ℕ
base_of ks location = cond (eqb location 34736) ks.doubles ks.text

unfoldable pub part_of : ℕ → ℕ → Entry → Option Span
part_of len base e =
    cond (leb (base + bytes_of e.location (e.index + e.count)) len)
    (Some (span (base + bytes_of e.location e.index) (bytes_of e.location e.count)))
    None

abbrev pub told_by : Entry → Option Span → Option KeyValue
told_by e (Some at) = Some (key_value e.key (cond (eqb e.location 34736) (Doubles at.start at.length) (Text at.start at.length)))
told_by e None = None

unfoldable pub told_of : ℕ → Keys → Entry → Option KeyValue
told_of len ks e =
    cond (eqb e.location 0) (Some (key_value e.key (Number e.index))) (told_by e (part_of len (base_of ks e.location) e))

-- the key with number k, the first being 0,
unfoldable pub key_at_of : Keys → ℕ → List ℕ → Option KeyValue
key_at_of ks k s = cond (leb ks.count k) None (told_of (length s) ks (entry_of (directory_in ks s) k))

-- and the key x
unfoldable pub found_of : Keys → ℕ → List ℕ → Option KeyValue
found_of ks x s = key_at_of ks (place_of (key_of (directory_in ks s)) x ks.count) s

-- ".. key not found"
abbrev pub value_by : Option KeyValue → Result Value Refused
value_by (Some found) = Ok found.value
value_by None = Err (at_record KeyNotFound 0)

abbrev pub got_by : Result Keys Refused → ℕ → List ℕ → Result Value Refused
got_by (Ok ks) x s = value_by (found_of ks x s)
got_by (Err err) x s = Err err

unfoldable pub got_of : ℕ → ℕ → List ℕ → Result Value Refused
got_of allowance x s = got_by (opened_of allowance s) x s
