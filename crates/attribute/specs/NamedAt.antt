-- Among some descriptors, where one with a name stands, and the bytes of the values before its own.
use Rattle.std.specs.Prelude.{ℕ, ◌≡◌, Option, Some, None}
use Rattle.std.proofs.Math.Path.{ap}
use Rattle.attribute.specs.declared.Named.{Named}

abbrev pub named_at : ℕ → ℕ → Named
named_at d p = record { descriptor = d; place = p }

-- what an answer holds, or another in its place
abbrev named_or : Named → Option Named → Named
named_or d (Some x) = x
named_or d None = d

-- equal answers hold the same
pub named_same : {x y : Named} → ◌≡◌ {A = Option Named} (Some x) (Some y) → (x.descriptor ≡ y.descriptor) × (x.place ≡ y.place)
named_same {x = x} p =
    let e = ap (named_or x) p in
    (ap (λ (n : Named). n.descriptor) e, ap (λ (n : Named). n.place) e)
