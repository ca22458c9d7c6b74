use native.Mathlib.Omega.{arith}
use Rattle.cursor.specs.Cursor.{plan_of, first_of}
use Rattle.cursor.proofs.first.Goals as goal

-- product and sum are below the end of the points
pub overflow_mul-end : goal.overflow_mul-end
overflow_mul-end c = record { fits = omega arith }

pub overflow_add-end : goal.overflow_add-end
overflow_add-end c = record { fits = omega arith }

pub returns : goal.returns
unfolding first_of plan_of
returns c = rw (← c.start_of_later_records.ensures)
