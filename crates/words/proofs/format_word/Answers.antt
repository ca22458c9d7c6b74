use native.Mathlib.Omega.{arith}
use Rattle.words.specs.Words.{format_word}
use Rattle.words.proofs.format_word.Goals as goal

pub returns : goal.returns
unfolding format_word
returns c = omega arith
