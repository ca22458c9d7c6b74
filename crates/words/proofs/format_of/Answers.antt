use Rattle.words.specs.Words.{format_of_word}
use Rattle.words.proofs.format_of.Goals as goal

pub returns : goal.returns
unfolding format_of_word
returns c = cc
