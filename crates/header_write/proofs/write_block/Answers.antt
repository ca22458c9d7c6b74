use Prim.Native.Nat.{ℕ}
use mathlib.Core.Path.{refl, ap, ◌∙◌}
use borrow.Author.Tests.{le-ltb, lt-ltb}
use lib.Seq.{sets}
use Rattle.header.specs.Layout.{place, width, fields12, fields13}
use Rattle.le.specs.Le.{bytes}
use Rattle.fields.specs.Table.{Stored, store, done}
use Rattle.fields.specs.Laws.{then}
use Rattle.header_write.specs.Bytes.{field_bytes}
use Rattle.header_write.proofs.write_block.Goals as goal
use Rattle.header_write.proofs.write_block.Goals.{After-set_u64, After-write_floats}

-- Long since three layouts return, each with its own stores before it; what they share is said once, over the place in the code.
-- where the floats are stored, all is that every version has
module _ (b : After-write_floats) where
  up_to12 : Stored width place (field_bytes b.args.h) b.args.dst.now fields12 b.write_floats.new.dst
  up_to12 =
      let g = field_bytes b.args.h in
      then width g place b.write_origin.ensures (then width g place b.write_contents.ensures b.write_floats.ensures)

-- and where the waveform start is stored, what 1.3 adds
module _ (w : After-set_u64) where
  up_to13 : Stored width place (field_bytes w.args.h) w.args.dst.now fields13 w.set_u64.new.d
  up_to13 =
      then width (field_bytes w.args.h) place (up_to12 (goal.at.After-set_u64 w).After-write_floats)
      (store (w.set_u64.ensures ∙ ap (λ (k : ℕ). sets w.write_floats.new.dst 227 (bytes 8 k)) w.start_back.ensures) refl done)

pub returns-then-minor-lt3 : goal.returns-then-minor-lt3
returns-then-minor-lt3 c = rw (lt-ltb _ _ c.if-minor-lt3.true) (up_to12 (goal.at.returns-then-minor-lt3 c).After-write_floats)

pub returns-then-minor-lt4 : goal.returns-then-minor-lt4
returns-then-minor-lt4 c =
    rw (le-ltb _ _ c.if-minor-lt3.false, lt-ltb _ _ c.if-minor-lt4.true) (up_to13 (goal.at.returns-then-minor-lt4 c).After-set_u64)

pub returns : goal.returns
returns c =
    rw (le-ltb _ _ c.if-minor-lt3.false, le-ltb _ _ c.if-minor-lt4.false) (then width (field_bytes c.args.h) place (up_to13 (goal.at.returns c).After-set_u64) c.write_large.ensures)
