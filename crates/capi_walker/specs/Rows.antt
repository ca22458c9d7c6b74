-- A walker's place as seven numbers, both ways, and the rows of its steps.
use Rattle.std.specs.Prelude.{Result, Ok, Err}
use Rattle.refusal.specs.declared.Refused.{Refused}
use Rattle.point.specs.declared.Point.{Point}
use Rattle.std.specs.Prelude.{ℕ, ◌%◌, ◌≡◌, refl, cond, List, [], ◌∷◌, eqb, get_or, length}
use Rattle.refusal.specs.declared.Row.{Row}
use Rattle.refusal.specs.Table.{row_of}
use Rattle.words.specs.Words.{format_of_word, format_word}
use Rattle.words.specs.Rows.{refused_row, part_row}
use Rattle.walker.specs.declared.Place.{Place}
use Rattle.walker.specs.Walk.{record_of, took_of}
use Rattle.capi_point.specs.Numbers.{numbers_of}

-- how a walk began
abbrev pub start_row : Result Unit Refused → Row
start_row (Ok tt) = record { number = 0; value = 0; «record» = 0 }
start_row (Err err) = row_of err.refusal err.«record»

-- a place as seven numbers, and the place of seven numbers
unfoldable pub place_numbers : Place → List ℕ
place_numbers p =
    let told = start_row p.start in
    format_word p.format ∷ p.at ∷ p.left ∷ p.count ∷ told.number ∷ told.value ∷ told.«record» ∷ []

unfoldable pub place_from : List ℕ → Place
place_from n =
    record { format = format_of_word (get_or n 0 0 % 4294967296); at = get_or n 1 0; left = get_or n 2 0; count = get_or n 3 0; start = (Ok tt) }

-- a step's place, row and numbers; where there is no point the place and the numbers stay
abbrev pub took_row : List ℕ → List ℕ → Result Point Refused → Place → List ℕ × List ℕ × List ℕ
took_row n numbers (Ok p) next = (place_numbers next, 0 ∷ 0 ∷ 0 ∷ [], numbers_of p)
took_row n numbers (Err err) next = (n, refused_row err.refusal err.«record», numbers)

-- the next point of the place n: a refused walk repeats its refusal
unfoldable pub next_row : List ℕ → List ℕ → List ℕ → List ℕ × List ℕ × List ℕ
next_row s n numbers =
    cond (eqb (get_or n 4 0) 0)
    (let took = took_of s (place_from n) in took_row n numbers took.answer took.next)
    (n, get_or n 4 0 ∷ get_or n 5 0 ∷ get_or n 6 0 ∷ [], numbers)

-- the place and the count of the next record's bytes; two zeros where there is none, as in a refused walk
unfoldable pub record_part : List ℕ → List ℕ → List ℕ
record_part s n = cond (eqb (get_or n 4 0) 0) (part_row (get_or n 1 0) (length (record_of s (place_from n)))) (0 ∷ 0 ∷ [])

-- a place as seven numbers, where the row of how the walk began is known
unfoldable pub place_with : Place → Row → List ℕ
place_with p told = format_word p.format ∷ p.at ∷ p.left ∷ p.count ∷ told.number ∷ told.value ∷ told.«record» ∷ []

pub with-start : (p : Place) → place_with p (start_row p.start) ≡ place_numbers p
unfolding place_with place_numbers
with-start p = refl
