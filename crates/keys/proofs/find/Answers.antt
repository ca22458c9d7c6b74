use Rattle.keys.specs.Keys.{found_of}
use Rattle.keys.proofs.find.Goals as goal

pub returns : goal.returns
unfolding found_of
returns c = rw (c.key_at.ensures, c.place-k.ensures, c.bytes_of.ensures)
