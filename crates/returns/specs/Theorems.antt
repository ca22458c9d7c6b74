-- What is promised of the return numbers.
use Rattle.std.specs.Prelude.{ℕ, ◌≡◌, refl, Bool, true, false, List}
use Rattle.std.proofs.Common.{sym, ap}
use Rattle.format.specs.declared.Format.{Format}
use Rattle.flags.specs.declared.Flags.{Flags}
use Rattle.flags.specs.Readings.{return_number_of, number_of_returns_of}
use Rattle.point.specs.Read.{point_of}
use Rattle.point.specs.Kind.{new_flags, old_flags}
use Rattle.returns.specs.declared.Mark.{Mark}
use Rattle.returns.specs.Returns.{mark, mark_of}

-- the two numbers that a point's flags tell
abbrev marked : Flags → Mark
marked x = mark (return_number_of x) (number_of_returns_of x)

-- Both numbers are those of the point that the point reader makes of the record.
pub as_read : (f : Format) (s : List ℕ) → mark_of f.is_extended s ≡ mark (return_number_of (point_of f s).flags) (number_of_returns_of (point_of f s).flags)
unfolding mark_of
as_read f s = go f.is_extended refl
  where
    go : (e : Bool) → f.is_extended ≡ e → mark_of e s ≡ marked (point_of f s).flags
    go true is = sym (ap marked (new_flags f s is))
    go false is = sym (ap marked (old_flags f s is))
