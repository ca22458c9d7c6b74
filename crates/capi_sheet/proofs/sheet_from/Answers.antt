use lib.ListN.{get_or}
use Rattle.capi_sheet.specs.Numbers.{sheet_from}
use Rattle.capi_sheet.proofs.sheet_from.Goals as goal

pub returns : goal.returns
unfolding sheet_from
returns c =
    let n = c.args.n.now in
    λ i. record {
      files = get_or n 0 0;
      points = get_or n 1 0;
      bounds = c.bounds_from.ensures i;
      classes = c.classes_from.ensures i;
      returns = c.returns_from.ensures i;
    }
