-- Laws of the rules.
use Rattle.std.specs.Prelude.{Err}
use Rattle.std.specs.Prelude.{ℕ, ◌≡◌, refl, List}
use Rattle.refusal.specs.declared.Refusal.{Refusal}
use Rattle.header.specs.Judged.{judged}
use Rattle.header.specs.Answers.{refused-only}
use Rattle.rules.specs.Rules.{record_number}

-- rule 1 names no record
pub header_number : (s : List ℕ) {r : Refusal} → judged s ≡ Err r → record_number r 0 ≡ 0
unfolding record_number
header_number s p = refused-only (λ r. record_number r 0 ≡ 0) (λ n. refl) (λ n. refl) (λ n. refl) s p
