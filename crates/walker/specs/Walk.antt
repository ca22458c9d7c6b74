-- A walker's answers: document 01, "A point walker over the lent file ..".
use Rattle.std.specs.Prelude.{Result, Ok, Err}
use Rattle.refusal.specs.Refused.{at_record}
use Rattle.refusal.specs.declared.Refused.{Refused}
use Rattle.point.specs.declared.Point.{Point}
use Rattle.std.specs.Prelude.{ℕ, ◌+◌, ◌-◌, Bool, true, false, cond, ◌&&◌, List, [], ltb, leb, length, take, drop}
use Rattle.refusal.specs.declared.Refusal.TheVariants.{Index}
use Rattle.format.specs.Fields.{record_bytes}
use Rattle.point.specs.Read.{point_of}
use Rattle.walker.specs.declared.Place.{Place}
use Rattle.walker.specs.declared.Took.{Took}
use Rattle.walker.specs.declared.Walker.{Walker}

-- n bytes from a place on, or none where they are not all there
unfoldable pub whole_at : ℕ → ℕ → List ℕ → List ℕ
whole_at at n s = cond (leb (at + n) (length s)) (take n (drop at s)) []

-- "starts with the file check"
abbrev pub accepted : Result Unit Refused → Bool
accepted (Ok tt) = true
accepted (Err err) = false

-- whether a walker has a next record: none at the end, and none with "an overlong format or a next record outside its file"
unfoldable pub has_next : List ℕ → Place → Bool
has_next s p =
    accepted p.start
    && (leb (record_bytes p.format) 65535 && (ltb 0 p.left && leb (p.at + record_bytes p.format) (length s)))

-- its bytes, and none where there is none
unfoldable pub record_of : List ℕ → Place → List ℕ
record_of s p = cond (has_next s p) (take (record_bytes p.format) (drop p.at s)) []

-- "answers 27 .. with the count it holds"; "a refused walker repeats its refusal"
abbrev pub refusal_by : Place → Result Unit Refused → Result Point Refused
refusal_by p (Ok tt) = Err (at_record (Index p.count) 0)
refusal_by p (Err err) = Err err

unfoldable pub refusal_of : Place → Result Point Refused
refusal_of p = refusal_by p p.start

-- the place after the next record
unfoldable pub after : Place → Place
after p =
    record { format = p.format; at = p.at + record_bytes p.format; left = p.left - 1; count = p.count; start = p.start }

-- "gives each record in turn, and at the end answers 27 and stays"
unfoldable pub took_of : List ℕ → Place → Took
took_of s p =
    cond (has_next s p) (record { answer = Ok (point_of p.format (record_of s p)); next = after p })
    (record { answer = refusal_of p; next = p })

-- a walker's answer, and the walker after it
abbrev pub next_by : Walker → Took → Result Point Refused × Walker
next_by w t = (t.answer, record { file = w.file; place = t.next })

unfoldable pub next_of : Walker → Result Point Refused × Walker
next_of w = next_by w (took_of w.file.now w.place)
