use Prim.Native.Nat.{ℕ, ◌*◌}
use mathlib.Core.Path.{refl, ap, sym, ◌∙◌}
use lib.Seq.{sets}
use Rattle.le.specs.Le.{bytes}
use lib.ListN.{length}
use Rattle.header.specs.declared.LargeFile.{LargeFile}
use Rattle.header.specs.declared.Evlr.{Evlr}
use Rattle.header.specs.Header.{large_back}
use Rattle.header.specs.Values.{length-numbers}
use Rattle.fields.specs.Table.{joined, store, done}
use Rattle.header_write.proofs.write_large.Goals as goal

pub returns : goal.returns
returns c =
    let h = c.args.h in
    let pair = c.evlr_back-evlr.ensures in
    let counts = c.large_back-large_file.ensures in
    store (c.set_u64.ensures ∙ ap (λ (e : Evlr). sets c.args.dst.now 235 (bytes 8 e.start_of_first_evlr)) pair) refl
    (store (c.set_u32.ensures ∙ ap (λ (e : Evlr). sets c.set_u64.new.d 243 (bytes 4 e.number_of_evlrs)) pair) refl
    (store (c.set_u64-2.ensures ∙ ap (λ (l : LargeFile). sets c.set_u32.new.d 247 (bytes 8 l.number_of_point_records)) counts) refl
    (store (c.set_large_by_return.ensures.0 ∙ ap (λ (l : LargeFile). sets c.set_u64-2.new.d 255 (joined (bytes 8) l.number_of_points_by_return)) counts)
    (length-numbers 8 (large_back h).number_of_points_by_return ∙ ap (λ (l : LargeFile). length l.number_of_points_by_return * 8) (sym counts) ∙ ap (λ (n : ℕ). n * 8) c.set_large_by_return.ensures.1) done)))
