use Rattle.capi_layout.proofs.bytes.Goals as goal

pub returns-then-has : goal.returns-then-has
returns-then-has c = rw c.if-has.true c.size.ensures

pub returns : goal.returns
returns c = rw c.if-has.false
