use mathlib.Core.Path.{◌∙◌}
use native.Mathlib.Omega.{arith}
use Rattle.store.specs.Window.{window_is}
use Rattle.descriptor.specs.Descriptor.{descriptor_of}
use Rattle.descriptor.proofs.contents.Goals as goal

-- Long since a descriptor has 16 fields, each from a call of its own.
pub returns : goal.returns
unfolding descriptor_of
returns c =
    let s = c.args.s.now in
    λ i. record {
      reserved = c.u16_at.ensures i;
      data_type = c.u8_at.ensures i;
      options = c.u8_at-2.ensures i;
      name = (c.bytes_at.ensures ∙ window_is 32 4 s (omega arith)) i;
      unused = c.u32_at.ensures i;
      no_data = c.u64_at.ensures i;
      deprecated1 = (c.bytes_at-2.ensures ∙ window_is 16 48 s (omega arith)) i;
      min = c.u64_at-2.ensures i;
      deprecated2 = (c.bytes_at-3.ensures ∙ window_is 16 72 s (omega arith)) i;
      max = c.u64_at-3.ensures i;
      deprecated3 = (c.bytes_at-4.ensures ∙ window_is 16 96 s (omega arith)) i;
      scale = c.u64_at-4.ensures i;
      deprecated4 = (c.bytes_at-5.ensures ∙ window_is 16 120 s (omega arith)) i;
      offset = c.u64_at-5.ensures i;
      deprecated5 = (c.bytes_at-6.ensures ∙ window_is 16 144 s (omega arith)) i;
      description = (c.bytes_at-7.ensures ∙ window_is 32 160 s (omega arith)) i;
    }
