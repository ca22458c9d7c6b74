use Rattle.std.specs.Prelude.{Ok}
use lib.ListN.{get_or}
use Rattle.capi_walker.specs.Rows.{place_from}
use Rattle.capi_walker.proofs.place_from.Goals as goal

pub returns : goal.returns
unfolding place_from
returns c =
    let n = c.args.n.now in
    λ i. record { format = c.format_of.ensures i; at = get_or n 1 0; left = get_or n 2 0; count = get_or n 3 0; start = (Ok tt) }
