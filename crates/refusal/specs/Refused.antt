-- A refusal with the number of the record that it speaks of, and what two equal answers have in common.
use Rattle.std.specs.Prelude.{ℕ, ◌≡◌, Result, Ok, Err}
use Rattle.std.proofs.Math.Path.{ap}
use Rattle.refusal.specs.declared.Refusal.{Refusal}
use Rattle.refusal.specs.declared.Refused.{Refused}

abbrev pub at_record : Refusal → ℕ → Refused
at_record r n = record { refusal = r; «record» = n }

-- what an answer holds, or something else in its place
abbrev value_or : {T E : Type 0} → T → Result T E → T
value_or d (Ok x) = x
value_or d (Err e) = d

abbrev error_or : {T E : Type 0} → E → Result T E → E
error_or d (Ok x) = d
error_or d (Err e) = e

-- equal answers hold the same
pub ok_same : {T E : Type 0} {x y : T} → ◌≡◌ {A = Result T E} (Ok x) (Ok y) → x ≡ y
ok_same {x = x} p = ap (value_or x) p

pub err_same : {T E : Type 0} {x y : E} → ◌≡◌ {A = Result T E} (Err x) (Err y) → x ≡ y
err_same {x = x} p = ap (error_or x) p

pub refused_same : {T : Type 0} {x y : Refused} → ◌≡◌ {A = Result T Refused} (Err x) (Err y) → (x.refusal ≡ y.refusal) × (x.«record» ≡ y.«record»)
refused_same p = let e = err_same p in (ap (λ (r : Refused). r.refusal) e, ap (λ (r : Refused). r.«record») e)
