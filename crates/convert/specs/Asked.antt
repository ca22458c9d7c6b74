-- What the private steps ask of the points that they write.
use Rattle.std.specs.Prelude.{Ok, ℕ, zero, suc, ◌≡◌, Bool, false, List, take, drop}
use Rattle.format.specs.declared.Format.{Format}
use Rattle.point.specs.declared.Point.{Point}
use Rattle.point.specs.Read.{point_of}
use Rattle.strict.specs.Fit.{fit_of}
use Rattle.pairs.specs.declared.Plan.{Plan}
use Rattle.convert.specs.Run.{turned_of}

-- the writer takes a point: it fits an old format
abbrev pub Takes : Format → Point → Type 0
Takes f p = f.is_extended ≡ false → fit_of p ≡ Ok tt

-- the writer takes each of `count` records
unfoldable pub TakesRun : Bool → Plan → ℕ → List ℕ → Type 0
TakesRun up p zero s = Unit
TakesRun up p (suc k) s =
    Takes p.target (turned_of up (point_of p.source (take p.source_length s))) × TakesRun up p k (drop p.source_length s)
