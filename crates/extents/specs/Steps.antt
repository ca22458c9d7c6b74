-- What the private steps of the check go by.
use Rattle.std.specs.Prelude.{ℕ, ◌≤◌, ◌<◌, List, length}
use Rattle.outline.specs.declared.Outline.{Outline}

-- what rules 2 to 5 leave to rules 6 to 8
pub record Bounded (o : Outline) (s : List ℕ) : Type 0 where
  pub after_header : o.header_size ≤ o.offset_to_point_data
  pub within : o.offset_to_point_data ≤ length s
  pub some-length : 0 < o.point_data_record_length
