-- What the nearest rank is, and what the two conversions of angles are to each other. Assumes nothing.
use Rattle.std.specs.Prelude.{ℕ, ◌+◌, ◌*◌, ◌/◌, ◌<◌, ◌≤◌, ◌≡◌, ℤ, nat_abs}
use Rattle.std.proofs.Common.{◌∙◌, arith, SFits}
use Rattle.std.specs.Int.{w8}
use Rattle.angle.specs.Angle.{nearest, nearest_rank, rank_of, scaled_of}
use Rattle.angle.specs.Sign.{own_size, rank_size, scaled-size}
use Rattle.angle.specs.Ranks.{rank_exact}
use Rattle.angle.specs.Table.{scaled_table, entry_of, table_rule}

-- Document 02, No. 4: "the same answers for every rank, but .. from a constant table of 256 numbers printed in the source, its rule proved once
-- for all entries". What `scaled_table` answers is this table, entry by entry.
pub every_rank : (r : ℤ) → SFits w8 r → entry_of scaled_table r ≡ scaled_of r
every_rank = table_rule

-- "the nearest whole number to 6n/1000, halves away from zero": 6n is less than a half above it and at most a half below; on the
-- other side of zero `nearest_rank` has the same size
pub nearest-whole : (n : ℕ) → (6 * n < 1000 * nearest n + 500) × (1000 * nearest n ≤ 6 * n + 500)
unfolding nearest
nearest-whole n = (omega arith, omega arith)

there_and_back : (n : ℕ) → nearest (500 * n / 3) ≡ n
unfolding nearest
there_and_back n = omega arith

-- "Scaled n to rank: the nearest whole number to 6n/1000 .. Rank r to scaled: 500r/3, fraction dropped." The fraction is less
-- than one step of 0.006 degrees, so a rank brought up and down again is itself.
pub nearest_back : (r : ℤ) → nearest_rank (scaled_of r) ≡ r
nearest_back r = rw (scaled-size, rank_size, there_and_back (nat_abs r)) (own_size r)

pub rank_kept : (r : ℤ) → SFits w8 r → rank_of (scaled_of r) ≡ r
rank_kept r h = rank_exact (scaled_of r) (rw (nearest_back r) h) ∙ nearest_back r
