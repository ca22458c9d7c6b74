use Rattle.capi_vlr.proofs.overlong.Goals as goal

pub returns-then-extended : goal.returns-then-extended
returns-then-extended c = rw c.if-extended.true

pub returns-else-extended : goal.returns-else-extended
returns-else-extended c = rw c.if-extended.false
