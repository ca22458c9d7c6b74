-- A sector as the caller writes it to the card, and what two equal answers have in common.
use Rattle.std.specs.Prelude.{ℕ, ◌≡◌, Option, Some, None, Result, Ok}
use Rattle.std.proofs.Math.Path.{ap}
use Rattle.refusal.specs.declared.Refusal.{Refusal}
use Rattle.refusal.specs.Refused.{ok_same}
use Rattle.sectors.specs.declared.Sector.{Sector}

abbrev pub sector_at : ℕ → ℕ → Sector
sector_at a l = record { at = a; len = l }

abbrev at_in : Option Sector → ℕ
at_in (Some s) = s.at
at_in None = 0

abbrev len_in : Option Sector → ℕ
len_in (Some s) = s.len
len_in None = 0

pub sector_same : {x y : Sector} → ◌≡◌ {A = Result (Option Sector) Refusal} (Ok (Some x)) (Ok (Some y)) → (x.at ≡ y.at) × (x.len ≡ y.len)
sector_same p = let e = ok_same p in (ap at_in e, ap len_in e)
