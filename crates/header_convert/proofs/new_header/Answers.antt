use mathlib.Core.Path.{◌∙◌}
use mathlib.Core.Bool.{true}
use Prim.Native.Nat.{◌+◌}
use lib.ListN.{replicate}
use Rattle.header_convert.specs.Turned.{changed_of, new_places, new_header}
use Rattle.header_convert.proofs.new_header.Goals as goal

pub returns : goal.returns
unfolding new_header new_places
returns c =
    let h = c.args.header in
    c.changed.ensures
    ∙ λ i. changed_of
    (record {
      minor = 4;
      header_size = h.header_size + 148;
      offset_to_point_data = h.offset_to_point_data + 148;
      format = c.new_code.ensures i;
      record_length = h.point_data_record_length + 2;
    })
    0 (replicate 5 0) true
    (record { number_of_point_records = h.number_of_point_records; number_of_points_by_return = c.fifteen.ensures i })
    h
