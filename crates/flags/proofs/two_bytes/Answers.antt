use Rattle.std.specs.Prelude.{Result, Ok}
use Rattle.refusal.specs.declared.Refusal.{Refusal}
use Prim.Native.Nat.{ℕ, ◌+◌, ◌*◌, ◌/◌, ◌%◌, ◌<◌}
use mathlib.Core.Path.{◌≡◌}
use lib.Dec.{eqb}
use Rattle.flags.proofs.Moved.{first-moved, second_moved}
use Rattle.refusal.proofs.Tests.{tests}
use Rattle.flags.specs.declared.Flags.TheVariants.{ThreeByte}
use Rattle.flags.specs.Readings.{bit}
use Rattle.flags.specs.Bytes.{old_first, old_second, two_bytes_of, old_bytes_of}
use borrow.Author.Rules.{rules}
use Rattle.flags.proofs.two_bytes.Goals as goal

-- the two bytes of a class and of what the three bytes' first two say, and how they are made
abbrev said : ℕ → ℕ → ℕ → Result (ℕ × ℕ) Refusal
said a b class = Ok ((old_first (a % 16) (a / 16 % 16) (bit 6 b) (bit 7 b)), (old_second class (eqb (b % 2) 1) (bit 1 b) (bit 2 b)))

made : (a b class : ℕ) → b < 256 → Ok ((b / 64 * 64 + a / 16 % 16 * 8 + a % 16), (b % 8 * 32 + class)) ≡ said a b class
made a b class h = λ i. Ok ((first-moved b (a / 16 % 16) (a % 16) h i), (second_moved b class i))

pub returns-then-b-eq1 : goal.returns-then-b-eq1
unfolding two_bytes_of old_bytes_of
returns-then-b-eq1 c =
    let a = c.args in
    let bytes : said a.a a.b 12 ≡ two_bytes_of (ThreeByte a.a a.b a.c) = search tests in
    rw (← bytes) (made a.a a.b 12 (search rules))

pub returns : goal.returns
unfolding two_bytes_of old_bytes_of
returns c =
    let a = c.args in
    let bytes : said a.a a.b a.c ≡ two_bytes_of (ThreeByte a.a a.b a.c) = search tests in
    rw (← bytes) (made a.a a.b a.c (search rules))

pub returns-then-return_number-gt7 : goal.returns-then-return_number-gt7
unfolding two_bytes_of
returns-then-return_number-gt7 c = search tests

pub returns-then-number_of_returns-gt7 : goal.returns-then-number_of_returns-gt7
unfolding two_bytes_of
returns-then-number_of_returns-gt7 c = search tests

pub returns-then-c-gt31 : goal.returns-then-c-gt31
unfolding two_bytes_of
returns-then-c-gt31 c = search tests

pub returns-then-scanner_channel-gt0 : goal.returns-then-scanner_channel-gt0
unfolding two_bytes_of
returns-then-scanner_channel-gt0 c = search tests

pub overflow_mul-first : goal.overflow_mul-first
unfolding two_bytes_of
overflow_mul-first c = search rules

pub overflow_mul-first-2 : goal.overflow_mul-first-2
unfolding two_bytes_of
overflow_mul-first-2 c = search rules

pub overflow_add-first : goal.overflow_add-first
unfolding two_bytes_of
overflow_add-first c = search rules

pub overflow_add-first-2 : goal.overflow_add-first-2
unfolding two_bytes_of
overflow_add-first-2 c = search rules

pub overflow_mul-result : goal.overflow_mul-result
unfolding two_bytes_of
overflow_mul-result c = search rules

pub overflow_add-result : goal.overflow_add-result
unfolding two_bytes_of
overflow_add-result c = search rules

pub overflow_mul-result-2 : goal.overflow_mul-result-2
unfolding two_bytes_of
overflow_mul-result-2 c = search rules

pub overflow_add-result-2 : goal.overflow_add-result-2
unfolding two_bytes_of
overflow_add-result-2 c = search rules
