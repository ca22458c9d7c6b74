-- An attribute by its name: document 02, No. 8, "find an attribute by its name, zeros filling it to 32 bytes"; "of equal names, the first".
use Rattle.std.specs.Prelude.{Option, Some, None, Result, Ok, Err}
use Rattle.attribute.specs.NamedAt.{named_at}
use Rattle.refusal.specs.Refused.{at_record}
use Rattle.refusal.specs.declared.Refused.{Refused}
use Rattle.attribute.specs.declared.Attribute.{Attribute}
use Rattle.attribute.specs.declared.Named.{Named}
use Rattle.std.specs.Prelude.{ℕ, zero, suc, ◌+◌, ◌*◌, ◌≤◌, cond, List, length, take, drop}
use Rattle.refusal.specs.declared.Refusal.TheVariants.{NameNotFound}
use Rattle.descriptor.specs.Layout.{descriptor_size}
use Rattle.descriptor.specs.Descriptor.{name_in}
use Rattle.names.specs.Names.{is_named}
use Rattle.attribute.specs.declared.Attributes.{Attributes}
use Rattle.attribute.specs.Attributes.{size_in, sizes_of, attribute_at, begun_of}

-- the first of n descriptors with the name: the first of them stands k bytes behind their start, and its value has `place` bytes of others
-- before it
unfoldable pub named_from : List ℕ → ℕ → ℕ → ℕ → List ℕ → Option Named
named_from name zero k place d = None
named_from name (suc n) k place d =
    cond (is_named (name_in d) name) (Some (named_at k place)) (named_from name n (k + descriptor_size) (place + size_in d) (drop descriptor_size d))

-- the attribute of that descriptor; "name not found"
abbrev pub searched_by : Attributes → List ℕ → Option Named → Result Attribute Refused
searched_by c s (Some named2) = Ok (attribute_at s (c.descriptor + named2.descriptor) (c.at + named2.place) c)
searched_by c s None = Err (at_record NameNotFound 0)

-- the descriptors from a place on
abbrev pub descriptors_of : Attributes → List ℕ → List ℕ
descriptors_of c s = take (c.left * descriptor_size) (drop c.descriptor s)

unfoldable pub searched_in : List ℕ → Attributes → List ℕ → Result Attribute Refused
searched_in name c s = searched_by c s (named_from name c.left 0 0 (descriptors_of c s))

abbrev pub found_by : List ℕ → List ℕ → Result Attributes Refused → Result Attribute Refused
found_by name s (Ok c) = searched_in name c s
found_by name s (Err err) = Err err

unfoldable pub found_of : ℕ → List ℕ → List ℕ → Result Attribute Refused
found_of allowance name s = found_by name s (begun_of allowance s)

-- a place in an accepted file: its descriptors all stand in s, and so do the points, and their values are no longer than a record
pub record Ready (c : Attributes) (s : List ℕ) : Type 0 where
  pub descriptors : c.descriptor + c.left * descriptor_size ≤ length s
  pub sizes : sizes_of c.left (descriptors_of c s) ≤ 65535
  pub near : c.at ≤ length s + 67
