use Rattle.header_write.proofs.large_back.Goals as goal

pub returns-then-has_large_file : goal.returns-then-has_large_file
returns-then-has_large_file c = rw c.if-has_large_file.true

pub returns : goal.returns
returns c = rw c.if-has_large_file.false
