use Prim.Native.Nat.{◌%◌}
use Rattle.capi_cursor.specs.Numbers.{nth, plan_from, cursor_from}
use Rattle.capi_cursor.proofs.cursor_from.Goals as goal

pub returns : goal.returns
unfolding cursor_from
returns c =
    let n = c.args.n.now in
    λ i. record { stage = c.stage_from.ensures i; at = nth n 1; left = nth n 2 % 4294967296; plan = plan_from n }
