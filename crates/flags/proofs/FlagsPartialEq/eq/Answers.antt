use Rattle.flags.specs.Bytes.{same_of}
use Rattle.flags.proofs.FlagsPartialEq.eq.Goals as goal

-- what the two calls answered, in place of the definition's own three bytes
pub returns : goal.returns
unfolding same_of
returns c = rw (← c.to_three_bytes.ensures, ← c.to_three_bytes-2.ensures) c.eq.ensures
