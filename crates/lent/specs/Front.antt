-- What a write answers and leaves: document 01, "Writes answer their byte count and leave what lies past it", and refusal 22.
use Rattle.std.specs.Prelude.{Result, Ok, Err}
use Rattle.refusal.specs.declared.Refusal.{Refusal}
use Rattle.std.specs.Prelude.{ℕ, List, ◌++◌, cond, length, drop, leb}
use Rattle.refusal.specs.declared.Refusal.TheVariants.{NoRoom}

-- the bytes bs at the front of d, or, where d is shorter, a refusal that leaves d
abbrev pub front_of : List ℕ → List ℕ → Result ℕ Refusal × List ℕ
front_of bs d =
    cond (leb (length bs) (length d)) (Ok (length bs), bs ++ drop (length bs) d) (Err (NoRoom (length bs)), d)
