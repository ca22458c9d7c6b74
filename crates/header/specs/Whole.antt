-- Where the standard block of a whole header ends, and where its padding does.
use Rattle.std.specs.Prelude.{ℕ}
use Rattle.std.specs.Prelude.{◌≡◌, Result, Ok, Err}
use Rattle.std.proofs.Math.Path.{ap}
use Rattle.refusal.specs.declared.Refusal.{Refusal}
use Rattle.header.specs.declared.Whole.{Whole}

abbrev pub whole_of : ℕ → ℕ → Whole
whole_of b e = record { block = b; end = e }

-- the numbers of an answer
abbrev block_in : Result Whole Refusal → ℕ
block_in (Ok w) = w.block
block_in (Err r) = 0

abbrev end_in : Result Whole Refusal → ℕ
end_in (Ok w) = w.end
end_in (Err r) = 0

-- two equal answers have the same numbers
pub whole_same : {b e b' e' : ℕ} → ◌≡◌ {A = Result Whole Refusal} (Ok (whole_of b e)) (Ok (whole_of b' e')) → (b ≡ b') × (e ≡ e')
whole_same p = (ap block_in p, ap end_in p)
