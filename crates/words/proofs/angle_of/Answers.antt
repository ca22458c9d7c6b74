use mir.Syntax.{w8, w16}
use Rattle.le.proofs.Twos.{kept}
use Rattle.refusal.proofs.Tests.{tests}
use Rattle.words.specs.Words.{angle_of}
use borrow.Author.Rules.{rules}
use Rattle.words.proofs.angle_of.Goals as goal

pub overflow_cast-w : goal.overflow_cast-w
unfolding angle_of
overflow_cast-w c = search rules

pub cast_signed-requires : goal.cast_signed-requires
unfolding angle_of
cast_signed-requires c = search rules

pub returns-then-w-eq1 : goal.returns-then-w-eq1
unfolding angle_of
returns-then-w-eq1 c = rw (kept w16 _ c.cast_signed.type_inv, c.cast_signed.ensures) (search tests)

pub overflow_cast-w-2 : goal.overflow_cast-w-2
unfolding angle_of
overflow_cast-w-2 c = search rules

pub cast_signed-requires-2 : goal.cast_signed-requires-2
unfolding angle_of
cast_signed-requires-2 c = search rules

pub returns : goal.returns
unfolding angle_of
returns c = rw (kept w8 _ c.cast_signed-2.type_inv, c.cast_signed-2.ensures) (search tests)
