use Prim.Native.Nat.{ℕ}
use mathlib.Core.Path.{ap, ◌∙◌}
use Rattle.header.specs.Header.{end_of, end_of_points}
use Rattle.header.proofs.Header.offset_to_end_of_points.Goals as goal

pub returns : goal.returns
unfolding end_of_points
returns c =
    let h = c.args.self in
    c.end_of_points.ensures
    ∙ ap (λ (k : ℕ). end_of h.offset_to_point_data k h.point_data_record_length) c.number_of_point_records.ensures
