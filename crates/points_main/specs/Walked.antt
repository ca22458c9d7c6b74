-- Whether a walk goes on after an answer: it may after a point, and does not after a refusal.
use Rattle.std.specs.Prelude.{Result, Ok, Err}
use Rattle.point.specs.declared.Point.{Point}
use Rattle.refusal.specs.declared.Refused.{Refused}
use Rattle.std.specs.Prelude.{◌≡◌, Bool, false}

abbrev pub Goes : Result Point Refused → Bool → Type 0
Goes (Ok p) more = Unit {0}
Goes (Err err) more = more ≡ false
