use Rattle.header_convert.proofs.large_of.Goals as goal

pub returns-then-header : goal.returns-then-header
returns-then-header c = rw c.if-header.true

pub returns : goal.returns
returns c = rw c.if-header.false
