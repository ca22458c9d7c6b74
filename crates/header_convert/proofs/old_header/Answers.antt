use mathlib.Core.Path.{◌≡◌, ◌∙◌}
use mathlib.Core.Bool.{true, false}
use Prim.Native.Nat.{◌-◌}
use Rattle.std.specs.List.{list_all}
use Rattle.header.specs.Header.{no_large}
use Rattle.header_convert.specs.Turned.{old_by_return, fits32, changed_of, old_places, old_header}
use Rattle.header_convert.proofs.old_header.Goals as goal
use Rattle.header_convert.proofs.old_header.Goals.{After-narrowed-by_return, After-old_by_return}

fit : (c : After-old_by_return) → list_all fits32 c.old_by_return.result ≡ true
fit c = rw c.old_by_return.ensures c.requires.by-return

by-return : (c : After-narrowed-by_return) → c.narrowed-by_return.result ≡ old_by_return c.args.header
by-return c = c.narrowed-by_return.ensures ∙ c.old_by_return.ensures

pub returns : goal.returns
unfolding old_header old_places
returns c =
    let h = c.args.header in
    c.changed.ensures
    ∙ λ i. changed_of
    (record {
      minor = 2;
      header_size = h.header_size - 148;
      offset_to_point_data = h.offset_to_point_data - 148;
      format = c.old_code.ensures i;
      record_length = h.point_data_record_length - 2;
    })
    (c.number_of_point_records-points.ensures i) (by-return (goal.at.returns c).After-narrowed-by_return i) false no_large h

pub narrowed-by_return-requires : goal.narrowed-by_return-requires
narrowed-by_return-requires c = fit c
