-- An attribute's value in a point: document 02, No. 8, "give its value in any point with the bits as stored".
use Rattle.std.specs.Prelude.{Result, Ok, Err}
use Rattle.refusal.specs.declared.Refusal.{Refusal}
use Rattle.std.specs.Prelude.{ℕ, ◌+◌, ◌*◌, ◌-◌, Bool, cond, ◌&&◌, List, [], ltb, leb, length, take, drop}
use Rattle.le.specs.Le.{num}
use Rattle.refusal.specs.declared.Refusal.TheVariants.{Index}
use Rattle.attribute.specs.declared.Attribute.{Attribute}

-- where the value of a point begins, the first point being 1
abbrev pub value_at : Attribute → ℕ → ℕ
value_at a point = a.at + (point - 1) * a.stride

-- whether there is such a point, and its value in the file; no attribute that a file has is from records of other lengths than 20 to 65,535
unfoldable pub lies : Attribute → ℕ → List ℕ → Bool
lies a point s =
    leb 20 a.stride
    && (leb a.stride 65535 && (ltb 0 point && (leb point a.count && leb (value_at a point + a.size) (length s))))

-- "index (27)", with the point count
unfoldable pub placed_of : Attribute → ℕ → List ℕ → Result ℕ Refusal
placed_of a point s = cond (lies a point s) (Ok (value_at a point)) (Err (Index a.count))

-- the value's bytes, "as stored"; none where it is refused
unfoldable pub bytes_of : Attribute → ℕ → List ℕ → List ℕ
bytes_of a point s = cond (lies a point s) (take a.size (drop (value_at a point) s)) []

-- and the first eight of them as a number, lowest first; those that are not there count as 0
unfoldable pub bits_of : Attribute → ℕ → List ℕ → ℕ
bits_of a point s = num 8 0 (bytes_of a point s)
