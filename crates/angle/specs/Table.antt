-- The table of scaled angles, of rank -128 first: document 02, No. 4, "a constant table of 256 numbers printed in the source, its rule proved
-- once for all entries".
use Rattle.std.specs.Prelude.{ℕ, zero, suc, ◌+◌, ◌%◌, ◌<◌, ◌≡◌, List, [], ◌∷◌, ℤ, pos, get_or}
use Rattle.std.proofs.Common.{ap, sym, ◌∙◌, add-zero, zero-add, add-suc, suc-add, arith, SFits, of_z, to_z}
use Rattle.std.specs.Int.{w8}
use mir.ValLaws.{to_z-of_z, of_z_fits}
use Rattle.angle.specs.declared.ScanAngle.{ScanAngle}
use Rattle.angle.specs.declared.ScanAngle.TheVariants.{Rank, Scaled}
use Rattle.angle.specs.Angle.{scaled_of}

-- the values of a rule from i on, n of them
abbrev from : {A : Type 0} → (ℕ → A) → ℕ → ℕ → List A
from f i zero = []
from f i (suc n) = f i ∷ from f (suc i) n

-- the rule of an entry: the scaled angle of the rank 128 below its place
abbrev rule_of : ℕ → ℤ
rule_of i = scaled_of (to_z w8 ((i + 128) % 256))

unfoldable pub scaled_table : List ℤ
scaled_table = from rule_of 0 256

-- the entry of a rank
unfoldable pub entry_of : List ℤ → ℤ → ℤ
entry_of table r = get_or table ((of_z w8 r + 128) % 256) (pos 0)

-- the scaled angle by a table
abbrev pub to_scaled_in : List ℤ → ScanAngle → ℤ
to_scaled_in table (Rank r) = entry_of table r
to_scaled_in table (Scaled n) = n

module _ {A : Type 0} (f : ℕ → A) where
  from_at : (n i k : ℕ) (d : A) → k < n → get_or (from f i n) k d ≡ f (i + k)
  from_at zero i k d h = absurd (omega arith)
  from_at (suc n) i zero d h = rw add-zero
  from_at (suc n) i (suc k) d h = from_at n (suc i) k d (omega arith) ∙ ap f (suc-add i k ∙ sym (add-suc i k))

-- "Rank r to scaled: 500r/3, fraction dropped": so the table has it, for every rank
pub table_rule : (r : ℤ) → SFits w8 r → entry_of scaled_table r ≡ scaled_of r
unfolding scaled_table entry_of
table_rule r h =
    let b = of_z w8 r in
    let place = (b + 128) % 256 in
    let back : (place + 128) % 256 ≡ b = omega (arith, (of_z_fits w8 r h).fits) in
    from_at rule_of 256 0 place (pos 0) (omega arith) ∙ ap rule_of (zero-add place) ∙ ap (λ (k : ℕ). scaled_of (to_z w8 k)) back ∙ ap scaled_of (to_z-of_z w8 r h)
