use mathlib.Core.Path.{◌∙◌}
use borrow.Author.Tests.{le-ltb, lt-ltb, le-leb, lt-leb}
use Rattle.refusal.proofs.Tests.{tests}
use Rattle.rules.specs.Rules.{first, record_number, header_rules}
use Rattle.rules.specs.Laws.{uncompressed}
use Rattle.rules.proofs.check_header.Goals as goal

-- Each return by the tests that led to it; the format's two numbers stand in them as the calls' results.
ruleset header-tests = (le-ltb, lt-ltb, le-leb, lt-leb, uncompressed)

pub returns-then-o-block : goal.returns-then-o-block
unfolding header_rules first record_number
returns-then-o-block c = c.refused.ensures ∙ search tests

pub returns-then-f-lt128 : goal.returns-then-f-lt128
unfolding header_rules first record_number
returns-then-f-lt128 c = c.refused-then-f-lt128.ensures ∙ search tests

pub returns-then-f-gt10 : goal.returns-then-f-gt10
unfolding header_rules first record_number
returns-then-f-gt10 c = c.refused-then-f-gt10.ensures ∙ search tests

pub returns-then-f-highest_format : goal.returns-then-f-highest_format
unfolding header_rules first record_number
returns-then-f-highest_format c = c.refused-then-f-highest_format.ensures ∙ rw (← c.highest_format.ensures) (search header-tests)

pub returns-then-o-format_length : goal.returns-then-o-format_length
unfolding header_rules first record_number
returns-then-o-format_length c = c.refused-then-o-format_length.ensures ∙ rw (← c.highest_format.ensures, ← c.format_length.ensures) (search header-tests)

pub returns-then-o : goal.returns-then-o
unfolding header_rules first record_number
returns-then-o c = c.refused-then-o.ensures ∙ rw (← c.highest_format.ensures, ← c.format_length.ensures) (search header-tests)

pub returns-then-len-o : goal.returns-then-len-o
unfolding header_rules first record_number
returns-then-len-o c = c.refused-then-len-o.ensures ∙ rw (← c.highest_format.ensures, ← c.format_length.ensures) (search header-tests)

pub returns : goal.returns
unfolding header_rules first record_number
returns c = rw (← c.highest_format.ensures, ← c.format_length.ensures) (search header-tests)
