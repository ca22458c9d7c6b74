-- The plan that a run goes by, and the bytes that it needs.
use Rattle.std.specs.Prelude.{ℕ, ◌≡◌, Result, Ok}
use Rattle.std.proofs.Math.Path.{ap}
use Rattle.refusal.specs.Refused.{ok_same}
use Rattle.pairs.specs.declared.Plan.{Plan}
use Rattle.judge.specs.declared.Run.{Run}

abbrev pub run_of : Plan → ℕ → Run
run_of p b = record { plan = p; bytes = b }

-- equal answers go by the same plan and need the same bytes
pub run_same : {E : Type 0} {x y : Run} → ◌≡◌ {A = Result Run E} (Ok x) (Ok y) → (x.plan ≡ y.plan) × (x.bytes ≡ y.bytes)
run_same p = let e = ok_same p in (ap (λ (r : Run). r.plan) e, ap (λ (r : Run). r.bytes) e)
