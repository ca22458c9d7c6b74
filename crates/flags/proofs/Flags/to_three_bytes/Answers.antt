use mathlib.Core.Path.{sym, ap}
use Rattle.flags.specs.Bytes.{three_bytes_of}
use borrow.Author.Rules.{rules}
use Rattle.flags.proofs.Flags.to_three_bytes.Goals as goal

pub enum_known-self : goal.enum_known-self
unfolding three_bytes_of
enum_known-self c = search rules

pub overflow_mul-result : goal.overflow_mul-result
unfolding three_bytes_of
overflow_mul-result c = search rules

pub overflow_add-result : goal.overflow_add-result
unfolding three_bytes_of
overflow_add-result c = search rules

pub enum_known-self-in-ThreeByte-1 : goal.enum_known-self-in-ThreeByte-1
unfolding three_bytes_of
enum_known-self-in-ThreeByte-1 c = search rules

pub returns-in-TwoByte : goal.returns-in-TwoByte
unfolding three_bytes_of
returns-in-TwoByte c = sym (ap three_bytes_of c.in-TwoByte.is)

pub returns-in-ThreeByte : goal.returns-in-ThreeByte
unfolding three_bytes_of
returns-in-ThreeByte c = sym (ap three_bytes_of c.in-ThreeByte.is)
