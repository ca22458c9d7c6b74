use mathlib.Core.Path.{ap, ◌∙◌}
use Rattle.words.specs.Words.{three_word}
use Rattle.flags.specs.Bytes.{three_bytes_of}
use Rattle.capi.proofs.las_flags_to_three_bytes.Goals as goal

pub returns : goal.returns
returns c = c.packed.ensures ∙ ap three_word (c.to_three_bytes-bytes.ensures ∙ ap three_bytes_of c.flags_of.ensures)
