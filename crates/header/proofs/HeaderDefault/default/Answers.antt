use Rattle.header.specs.Header.{default_header}
use Rattle.header.proofs.HeaderDefault.default.Goals as goal

pub returns : goal.returns
unfolding default_header
returns c = rw c.no_nans.ensures
