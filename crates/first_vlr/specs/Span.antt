-- A part of the file: its first byte and its bytes.
use Rattle.std.specs.Prelude.{ℕ, ◌≡◌, Option, Some, None}
use Rattle.std.proofs.Math.Path.{ap}
use Rattle.first_vlr.specs.declared.Span.{Span}

abbrev pub span : ℕ → ℕ → Span
span s l = record { start = s; length = l }

-- the part that an answer holds, or another in its place
abbrev part_or : Span → Option Span → Span
part_or d (Some x) = x
part_or d None = d

-- equal answers hold the same part
pub span_same : {x y : Span} → ◌≡◌ {A = Option Span} (Some x) (Some y) → (x.start ≡ y.start) × (x.length ≡ y.length)
span_same {x = x} p =
    let e = ap (part_or x) p in
    (ap (λ (s : Span). s.start) e, ap (λ (s : Span). s.length) e)
