use Prim.Native.Nat.{ℕ}
use mathlib.Core.Path.{sym, ap, ◌∙◌}
use Rattle.format.specs.Format.{with_extra}
use Rattle.file.specs.Points.{filled, point_format}
use Rattle.file.proofs.point_format.Goals as goal

pub returns-in_default : goal.returns-in_default
unfolding point_format
returns-in_default c =
    let record_length = c.args.o.point_data_record_length in
    c.default.ensures ∙ ap (filled record_length) (sym c.in_default.is ∙ c.new.ensures)

pub returns : goal.returns
unfolding point_format
returns c =
    let record_length = c.args.o.point_data_record_length in
    ap (λ (n : ℕ). with_extra n c.in-Ok.format) c.beyond-extra.ensures ∙ ap (filled record_length) (sym c.in-Ok.is ∙ c.new.ensures)
