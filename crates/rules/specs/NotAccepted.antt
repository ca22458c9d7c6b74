-- Why a file is not accepted: the refusal, its record number and the number of records found whole.
use Rattle.std.specs.Prelude.{ℕ, ◌≡◌, Result, Err}
use Rattle.std.proofs.Math.Path.{ap}
use Rattle.refusal.specs.declared.Refusal.{Refusal}
use Rattle.refusal.specs.declared.Refused.{Refused}
use Rattle.refusal.specs.Refused.{at_record, err_same}
use Rattle.rules.specs.declared.NotAccepted.{NotAccepted}

abbrev pub not_accepted : Refusal → ℕ → ℕ → NotAccepted
not_accepted r k n = record { refusal = r; «record» = k; records = n }

-- what a caller is told that counts no records
abbrev pub refused_of : NotAccepted → Refused
refused_of found = at_record found.refusal found.«record»

-- equal answers of a file check have the same refusal and the same numbers
pub found_same : {T : Type 0} {x y : NotAccepted} → ◌≡◌ {A = Result T NotAccepted} (Err x) (Err y) → (x.refusal ≡ y.refusal) × (x.«record» ≡ y.«record») × (x.records ≡ y.records)
found_same p =
    let e = err_same p in
    (ap (λ (f : NotAccepted). f.refusal) e, ap (λ (f : NotAccepted). f.«record») e, ap (λ (f : NotAccepted). f.records) e)
