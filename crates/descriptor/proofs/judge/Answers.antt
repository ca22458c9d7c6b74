use mathlib.Core.Path.{sym}
use native.Mathlib.Omega.{arith}
use Rattle.descriptor.specs.Laws.{too_few, no_type, all_there}
use Rattle.descriptor.proofs.judge.Goals as goal

pub returns-then-s-lt192 : goal.returns-then-s-lt192
returns-then-s-lt192 c = sym (too_few c.args.s.now c.if-s-lt192.true)

pub returns-then-u8_at-gt10 : goal.returns-then-u8_at-gt10
returns-then-u8_at-gt10 c = sym (no_type c.args.s.now (omega arith) (omega (arith, c.u8_at.ensures)))

pub returns : goal.returns
returns c = sym (all_there c.args.s.now (omega arith) (omega (arith, c.u8_at.ensures)))
