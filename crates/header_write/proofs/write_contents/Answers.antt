use Prim.Native.Nat.{ℕ, ◌*◌, ◌<◌}
use mathlib.Core.Path.{refl, ap, ◌∙◌}
use lib.Seq.{sets}
use borrow.Author.Rules.{rules}
use Rattle.le.specs.Laws.{one_byte}
use Rattle.fields.specs.Table.{store, done}
use Rattle.header.specs.Values.{length-numbers}
use Rattle.header_write.proofs.write_contents.Goals as goal
use Rattle.header_write.proofs.write_contents.Goals.{Start}

format-fits : (s : Start) → s.args.h.point_data_record_format < 256
format-fits s = search rules

pub returns : goal.returns
returns c =
    let h = c.args.h in
    store c.set_u16.ensures refl
    (store c.set_u16-2.ensures refl
    (store c.set_u16-3.ensures refl
    (store c.set_u32.ensures refl
    (store c.set_u32-2.ensures refl
    (store (c.set_u8.ensures ∙ ap (sets c.set_u32-2.new.d 104) (one_byte h.point_data_record_format (format-fits (goal.at.returns c).Start))) refl
    (store c.set_u16-4.ensures refl
    (store c.set_u32-3.ensures refl
    (store c.set_by_return.ensures.0 (length-numbers 4 h.number_of_points_by_return ∙ ap (λ (n : ℕ). n * 4) c.set_by_return.ensures.1) done))))))))
