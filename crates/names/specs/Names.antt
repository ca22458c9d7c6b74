-- A name in a field of a fixed length: document 02, No. 8, "by its name, zeros filling it to 32 bytes".
use Rattle.std.specs.Prelude.{ℕ, ◌-◌, Bool, List, ◌++◌, length, replicate}
use Rattle.header.specs.Judged.{eq_list}

-- a name filled with zeros to n bytes
unfoldable pub filled : ℕ → List ℕ → List ℕ
filled n name = name ++ replicate (n - length name) 0

-- whether a field holds it; all bytes count, those after an inner zero too
unfoldable pub is_named : List ℕ → List ℕ → Bool
is_named field name = eq_list field (filled (length field) name)
