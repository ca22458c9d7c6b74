use mathlib.Core.Path.{ap, ◌∙◌}
use borrow.Author.Rules.{rules}
use Rattle.store.specs.Window.{window_is}
use Rattle.capi_descriptor.specs.Rows.{type_from, descriptor_from}
use Rattle.capi_descriptor.proofs.descriptor_from.Goals as goal

-- Long since a descriptor has 16 fields, each from a call of its own: a name for each place, then the record.
pub returns : goal.returns
unfolding descriptor_from
returns c =
    let a = c.args in
    let old = a.deprecated.now in
    λ i. record {
      reserved = c.low16.ensures i;
      data_type = (c.type_from.ensures ∙ ap type_from c.nth.ensures) i;
      options = c.low8.ensures i;
      name = a.name;
      unused = c.low32.ensures i;
      no_data = c.nth-2.ensures i;
      deprecated1 = (c.bytes_at.ensures ∙ window_is 16 0 old (search rules)) i;
      min = c.nth-3.ensures i;
      deprecated2 = (c.bytes_at-2.ensures ∙ window_is 16 16 old (search rules)) i;
      max = c.nth-4.ensures i;
      deprecated3 = (c.bytes_at-3.ensures ∙ window_is 16 32 old (search rules)) i;
      scale = c.nth-5.ensures i;
      deprecated4 = (c.bytes_at-4.ensures ∙ window_is 16 48 old (search rules)) i;
      offset = c.nth-6.ensures i;
      deprecated5 = (c.bytes_at-5.ensures ∙ window_is 16 64 old (search rules)) i;
      description = a.description;
    }
