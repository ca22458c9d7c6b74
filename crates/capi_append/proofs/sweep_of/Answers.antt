use lib.ListN.{get_or}
use Rattle.capi_append.specs.Rows.{sweep_from}
use Rattle.capi_append.proofs.sweep_of.Goals as goal

pub returns : goal.returns
unfolding sweep_from
returns c =
    let n = c.args.n.now in
    λ i. record {
      at = get_or n 0 0;
      bytes = get_or n 1 0;
      points = c.low32.ensures i;
      first = c.low32-2.ensures i;
      second = c.low32-3.ensures i;
      third = c.low32-4.ensures i;
      fourth = c.low32-5.ensures i;
      fifth = c.low32-6.ensures i;
    }
