use mathlib.Core.Path.{ap, sym}
use Rattle.capi_keys.specs.Rows.{key_numbers}
use Rattle.capi_keys.proofs.key_numbers.Goals as goal

pub returns-in-Number : goal.returns-in-Number
returns-in-Number c = ap (key_numbers c.args.key) (sym c.in-Number.is)

pub returns-in-Doubles : goal.returns-in-Doubles
returns-in-Doubles c = ap (key_numbers c.args.key) (sym c.in-Doubles.is)

pub returns-in-Text : goal.returns-in-Text
returns-in-Text c = ap (key_numbers c.args.key) (sym c.in-Text.is)
