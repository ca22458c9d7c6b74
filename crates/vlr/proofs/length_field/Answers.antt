use mathlib.Core.Path.{ap}
use Rattle.vlr.specs.declared.RecordLength.TheVariants as kind
use Rattle.vlr.proofs.length_field.Goals as goal

pub returns-then-extended : goal.returns-then-extended
returns-then-extended c = rw c.if-extended.true (ap kind.Evlr c.u64_at.ensures)

pub returns-else-extended : goal.returns-else-extended
returns-else-extended c = rw c.if-extended.false (ap kind.Vlr c.u16_at.ensures)
